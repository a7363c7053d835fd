-- What a rule is judged on, and how that decides it.
use Prim.Native.Nat.{ℕ, ◌≤◌, ◌<◌}
use mathlib.Core.Path.{◌≡◌, refl, sym, ◌∙◌}
use mathlib.Core.Bool.{Bool, ◌&&◌, ◌||◌, false≢true}
use mathlib.Core.List.{List}
use mathlib.Core.Logic.{inl, inr}
use native.Mathlib.Omega.{arith}
use lib.Dec.{leb}
use Rattle.model.specs.Bytes.{bit}
use Rattle.model.specs.Decides.{Decides}
use Rattle.model.specs.Graph.{Graph}
use Rattle.model.specs.Policies.{Admits, known, clique}
use Rattle.model.specs.SchemeBytes.{scheme_of}
use Rattle.model.proofs.Deciding.{Says, says, decided, iff, conj, disj, is_le}
use Rattle.rules.specs.declared.Rule.{Rule}
use Rattle.rules.specs.declared.Rule.TheVariants.{Within, Known, Clique, Both, Either}
use Rattle.rules.specs.Rules.{policy_of_rule, kind_of, RuleFits}
use Rattle.network.specs.Ready.{graph_of}
use Rattle.clique.specs.Cliques.{LargestClique}
use Rattle.distance_mark.specs.Mark.{AtMost}
use Rattle.known.specs.Acquainted.{Acquainted}
use Rattle.relation.specs.declared.Relation.{Relation}
use Rattle.rule_admission.specs.Admission.{Admitted, NextRule}

-- a policy's bit
pub bit_says : {b net : List ℕ} {u v from count set : ℕ} → Admitted b net u v from count set → (p : ℕ) → from ≤ p → p < count
    → Says (bit set p) (Admits (graph_of b net) ((scheme_of b).policy p) u v)
bit_says a p f l =
    let (to, back) = a.admits p f l in
    record { yes_if = to; no_if = λ e h. false≢true (sym e ∙ back h) }

-- the size of the largest clique
clique_decides : (g : Graph) (u v k largest : ℕ) → (u ≡ v → ⊥) → 2 ≤ k → k ≤ 5 → LargestClique g u v largest
    → Decides (leb k largest) (Admits g (clique k) u v)
clique_decides g u v k largest apart a b h = decided (iff (λ l. inr ((h k a b).0 l)) from (is_le k largest))
  where
    from : Admits g (clique k) u v → k ≤ largest
    from (inl d) = absurd (apart d)
    from (inr c) = (h k a b).1 c

module _ {b net : List ℕ} {u v set : ℕ} {relation : Relation} {rule : Rule} (next : NextRule b net u v relation set rule) where
  -- the answer says whether the rule admits
  abbrev Right : Bool → Rule → Type 0
  Right r stood = Decides r (Admits (graph_of b net) (policy_of_rule (scheme_of b).policy stood) u v)

  told : (r : Bool) (stood : Rule) → rule ≡ stood → Right r stood → Right r rule
  told r stood e d = rw e d

  fits : (stood : Rule) → rule ≡ stood → RuleFits next.p stood
  fits stood e = rw e at next.at.fits

  -- a rule of kind within, by the distance
  pub within_told : (k : ℕ) (r : Bool) → rule ≡ Within k → Decides r (AtMost relation.distance k) → Right r rule
  within_told k r e d =
      let (to, from) = next.reads.near k (next.p, omega arith, omega arith, next.at.policy ∙ rw e) in
      told r (Within k) e (decided (iff from to (says d)))

  -- a rule of kind known, by the acquaintance
  pub known_told : (k : ℕ) (r : Bool) → rule ≡ Known k → ((g : Graph) (u v : ℕ) → Acquainted g u v relation.acquaintance → Decides r (Admits g (known k) u v))
      → Right r rule
  known_told k r e d =
      told r (Known k) e (d (graph_of b net) u v (next.reads.acquainted (next.p, omega arith, omega arith, rw (next.at.policy, e) refl)))

  -- a rule of kind clique, by the size, where owner and accessor are two
  pub clique_told : (k : ℕ) → rule ≡ Clique k → (u ≡ v → ⊥) → Right (leb k relation.clique) rule
  clique_told k e apart =
      let (least, most) = fits (Clique k) e in
      told (leb k relation.clique) (Clique k) e
      (clique_decides (graph_of b net) u v k relation.clique apart least most
      (next.reads.sized (next.p, omega arith, omega arith, rw (next.at.policy, e) refl) apart))

  low : 7 ≤ kind_of (policy_of_rule (scheme_of b).policy rule) → (q : ℕ) → q < next.p
      → Says (bit set q) (Admits (graph_of b net) ((scheme_of b).policy q) u v)
  low h q l = bit_says (next.lower (rw next.at.policy h)) q (omega arith) l

  -- a combination, by the bits of its operands
  pub both_told : (left right : ℕ) → rule ≡ Both left right → Right (bit set left && bit set right) rule
  both_told left right e =
      let (l, r) = fits (Both left right) e in
      let low = low (rw e (omega arith)) in
      told (bit set left && bit set right) (Both left right) e (decided (conj (low left l) (low right r)))

  pub either_told : (left right : ℕ) → rule ≡ Either left right → Right (bit set left || bit set right) rule
  either_told left right e =
      let (l, r) = fits (Either left right) e in
      let low = low (rw e (omega arith)) in
      told (bit set left || bit set right) (Either left right) e (decided (disj (low left l) (low right r)))
