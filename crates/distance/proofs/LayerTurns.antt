-- The loop that spreads a layer of marks, turn by turn.
use Prim.Native.Nat.{ℕ, ◌+◌, ◌<◌, ◌≤◌}
use mathlib.Core.Path.{◌≡◌}
use mathlib.Core.Bool.{Bool, true, false, true≢false}
use mathlib.Core.List.{List}
use mathlib.Core.Logic.{inl, inr, ⊎_elim}
use native.Mathlib.Omega.{arith}
use borrow.Author.Count.{below_more}
use lib.ListN.{get_or}
use Rattle.model.specs.Graph.{Graph}
use Rattle.next_friend.specs.Spread.{Spread}
use Rattle.next_friend.proofs.Spreading.{last, spread_same, spread_then}
use Rattle.distance.specs.Marks.{Layered}

module _ {g : Graph} {d : ℕ} {old new : List ℕ} {m : ℕ} {some : Bool} (x : Layered g d old m new some) (pos : 0 < d) (lm : m < g.members) where
  -- the loop's own marks add nobody to the layer and take nobody from it
  same : (get_or new m 0 ≡ d → get_or old m 0 ≡ d) × (get_or old m 0 ≡ d → get_or new m 0 ≡ d)
  same = (
    λ e. ⊎_elim (λ w. omega arith) (λ w. omega arith) (x.spread.each m lm),
    λ e. ⊎_elim (λ w. omega arith) (λ w. omega arith) (x.spread.each m lm),
  )

  pub layer_pass : (get_or new m 0 ≡ d → ⊥) → Layered g d old (m + 1) new some
  layer_pass h = record {
    spread =
        spread_same x.spread (λ j k t. (omega (arith, t.0), t.1))
        (λ j k a b u e. ⊎_elim (λ q. absurd (h (same.1 (rw q at u.1)))) (λ l. inl (l, u.1)) (last u.0));
    ended = λ e. below_more _ m (x.ended e) (λ q. absurd (h (same.1 q)));
  }

  pub layer_hit : {far : List ℕ} → get_or new m 0 ≡ d → Spread g (λ j k. j ≡ m) (d + 1) new far → Layered g d old (m + 1) far true
  layer_hit h y = record {
    spread =
        spread_same (spread_then x.spread y)
        (λ j k t. ⊎_elim (λ t. (omega (arith, t.0), t.1)) (λ q. (omega arith, rw q (same.0 h))) t)
        (λ j k a b u e. inl (⊎_elim (λ q. inr q) (λ l. inl (l, u.1)) (last u.0)));
    ended = λ e. absurd (true≢false e);
  }

  -- everybody has a mark
  pub layer_full : {n : ℕ} → m ≤ n → ((k : ℕ) → k < g.members → 0 < get_or new k 0) → Layered g d old n new false
  layer_full l h = record {
    spread = spread_same x.spread (λ j k t. (omega (arith, t.0), t.1)) (λ j k a b u e. inr (h k b));
    ended = λ e j b q. h;
  }
