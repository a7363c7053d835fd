-- Where chains may begin is marked, turn by turn.
use Prim.Native.Nat.{ℕ, ◌+◌, ◌<◌, ◌≤◌}
use mathlib.Core.Path.{◌≡◌, refl, sym, ◌∙◌}
use mathlib.Core.Bool.{Bool, true, false, not, true≢false}
use mathlib.Core.List.{List}
use mathlib.Core.Logic.{inl, inr, ⊎_elim}
use native.Mathlib.Decide.{dec_lt}
use native.Mathlib.Omega.{arith}
use borrow.Author.Count.{below_more}
use lib.Dec.{eqb}
use lib.ListN.{get_or, set, length-set}
use Rattle.std.proofs.Common.{Option, None, Some, IfSome}
use Rattle.std.specs.Option.{option_eq}
use Rattle.model.specs.Decides.{Decides}
use Rattle.model.specs.Finding.{World}
use Rattle.model.proofs.Deciding.{said_yes, said_no, passed, decided, is_eq}
use Rattle.next_friend.specs.Spread.{Spread}
use Rattle.starts.specs.Starts.{Begun, StartsAdded}
use Rattle.starts.proofs.OneStored.{Stored, one_stored}

-- where k is the one that is named, and none of a set
pub named_other : (Of : ℕ → Type 0) {n : ℕ} {r : Bool} (u : Option ℕ) (k : ℕ) → IfSome u (λ x. x < n → Of x → ⊥) → r ≡ not (option_eq eqb (Some k) u) → r ≡ false → k < n → Of k → ⊥
named_other Of None k h e f b o = absurd (true≢false (sym e ∙ f))
named_other Of (Some x) k h e f b o = let d : k ≡ x = passed (eqb k x) (sym e ∙ f) (decided (is_eq k x)) in h (rw d at b) (rw d at o)

-- the same set, told otherwise
pub starts_as : {n i : ℕ} {Of Of' : ℕ → Type 0} {before seen : List ℕ} → ((k : ℕ) → k < n → Of k → Of' k) → ((k : ℕ) → Of' k → Of k)
    → StartsAdded n Of before i seen
    → StartsAdded n Of' before i seen
starts_as to from x = record {
  long = x.long;
  added = λ k a h. x.added k a (from k h);
  each = λ k a. ⊎_elim (λ e. inl e) (λ e. inr (e.0, e.1, to k a e.2)) (x.each k a);
}

module _ {n i : ℕ} {Of : ℕ → Type 0} {before seen : List ℕ} (x : StartsAdded n Of before i seen) where
  -- up to r, those of the set are seen
  pub skip_to : {r : ℕ} → ((k : ℕ) → k < r → i ≤ k → Of k → 1 ≤ get_or seen k 0) → StartsAdded n Of before r seen
  skip_to h = record { long = x.long; added = λ k a o. elim (dec_lt k i) [ yes l ↦ x.added k l o | no l ↦ h k a (omega arith) o ]; each = x.each }

  skip : (Of i → 1 ≤ get_or seen i 0) → StartsAdded n Of before (i + 1) seen
  skip h = record { long = x.long; added = below_more _ _ x.added h; each = x.each }

  -- i is seen
  pub skip_seen : (get_or seen i 0 ≡ 0 → ⊥) → StartsAdded n Of before (i + 1) seen
  skip_seen h = skip (λ a. omega arith)

  -- i is none of the set
  pub skip_other : (Of i → ⊥) → StartsAdded n Of before (i + 1) seen
  skip_other h = skip (λ a. absurd (h a))

  pub skip_refused : {a : Bool} → a ≡ false → Decides a (Of i) → StartsAdded n Of before (i + 1) seen
  skip_refused e d = skip_other (said_no e d)

  module _ (small : n ≤ 256) (b : i < n) where
    -- i is unseen, and of the set
    pub add : get_or seen i 0 ≡ 0 → Of i → StartsAdded n Of before (i + 1) (set seen i 1)
    add e y = record {
      long = simp length-set x.long;
      added = λ k a h. ⊎_elim (λ q. omega arith) (λ q. let y = x.added k (omega (arith, q.0)) h in omega arith) (at k);
      each = λ k a.
          ⊎_elim (λ q. inr (rw q.0 unseen, q.1, rw q.0 y))
          (λ q. ⊎_elim (λ e. inl (omega arith)) (λ e. inr (e.0, omega arith, e.2)) (x.each k a))
          (at k);
    }
      where
        at : (k : ℕ) → Stored seen i 1 k
        at = one_stored seen i 1 x.long (omega arith)

        unseen : get_or before i 0 ≡ 0
        unseen = ⊎_elim (λ w. omega arith) (λ w. w.0) (x.each i b)

    pub add_allowed : {a : Bool} → get_or seen i 0 ≡ 0 → a ≡ true → Decides a (Of i) → StartsAdded n Of before (i + 1) (set seen i 1)
    add_allowed z e d = add z (said_yes e d)

-- nobody was seen, the viewer's friends are, and the viewer joins them
pub begun : {w : World} {v : ℕ} {before seen : List ℕ} → Spread w.graph (λ j k. j ≡ v) 1 before seen → ((k : ℕ) → k < 256 → get_or before k 0 ≡ 0)
    → ((k : ℕ) → w.graph.friends v k ≡ w.graph.friends k v)
    → w.graph.members ≤ 256
    → v < w.graph.members
    → Begun w v (set seen v 1)
begun {v = v} {seen = seen} x z both small b = record {
  long = simp length-set x.size;
  low = λ k a. ⊎_elim (λ q. omega arith) (λ q. ⊎_elim (λ e. omega (arith, z k (omega arith))) (λ e. omega arith) (x.each k a)) (at k);
  exactly = λ k a. (
    λ h.
        ⊎_elim (λ q. inl q.0)
        (λ q. inr (⊎_elim (λ e. absurd (omega (arith, z k (omega arith)))) (λ e. both k ∙ rw e.2.2 at e.2.3) (x.each k a)))
        (at k),
    λ h. ⊎_elim (λ q. omega arith) (λ q. ⊎_elim (λ e. absurd (q.0 e)) (λ f. omega (arith, x.marked v k b a refl (sym (both k) ∙ f))) h) (at k),
  );
}
  where
    at : (k : ℕ) → Stored seen v 1 k
    at = one_stored seen v 1 x.size (omega arith)
