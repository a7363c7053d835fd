-- The set of the policies that admit.
use Prim.Native.Nat.{ℕ, ◌+◌, ◌≤◌, ◌<◌}
use mathlib.Core.Path.{◌≡◌, ◌∙◌}
use mathlib.Core.Bool.{Bool, true}
use mathlib.Core.List.{List}
use mathlib.Core.Logic.{◌↔◌}
use native.Mathlib.Omega.{arith}
use native.Mathlib.Decide.{ℕ_discrete}
use Rattle.model.specs.Bytes.{bit}
use Rattle.model.specs.Decides.{Decides}
use Rattle.model.specs.Policies.{Admits}
use Rattle.model.specs.SchemeBytes.{scheme_of}
use Rattle.model.proofs.Sets.{Added}
use Rattle.model.proofs.Deciding.{says, is_so}
use Rattle.network.specs.Ready.{graph_of}
use Rattle.relation.specs.declared.Relation.{Relation}
use Rattle.relation.proofs.Relating.{related_less}
use Rattle.rule_admission.specs.Admission.{Reads, Admitted}

-- what one policy among them reads
pub reads_one : (b net : List ℕ) (u v from count : ℕ) (relation : Relation) → Reads b net u v from count relation → (p : ℕ) → from ≤ p → p < count
    → Reads b net u v p (p + 1) relation
reads_one b net u v from count relation r p f l = related_less
    (λ k (q, a, d, e). (q, omega arith, omega arith, e))
    (λ (q, a, d, e). (q, omega arith, omega arith, e))
    (λ (q, a, d, e). (q, omega arith, omega arith, e))
    r

-- those below p, where p combines
pub lower_all : {b net : List ℕ} {u v from set p : ℕ} → from ≡ 0 → Admitted b net u v from p set → Admitted b net u v 0 p set
lower_all z a = record { admits = λ q f l. a.admits q (omega arith) l; none_below = λ q l. absurd (omega arith); none_above = a.none_above }

pub admitted_more : {b net : List ℕ} {u v from set p set' : ℕ} {t : Bool} → from ≤ p → Admitted b net u v from p set → Added set p t set'
    → Decides t (Admits (graph_of b net) ((scheme_of b).policy p) u v)
    → Admitted b net u v from (p + 1) set'
admitted_more {b} {net} {u} {v} {from} {set} {p} {set'} {t} at a d h = record {
  admits = λ q f l. go q f l (ℕ_discrete q p);
  none_below = λ q l. d.kept q (omega arith) ∙ a.none_below q l;
  none_above = d.none_above;
}
  where
    go : (q : ℕ) → from ≤ q → q < p + 1 → Dec (q ≡ p) → (bit set' q ≡ true) ↔ Admits (graph_of b net) ((scheme_of b).policy q) u v
    go q f l (yes e) = let s = says h in rw (e, d.here) (s.yes_if, is_so s)
    go q f l (no e) = rw (d.kept q (omega arith)) (a.admits q f (omega arith))
