-- The loops that look for the next friend who is not seen, turn by turn.
use Prim.Native.Nat.{ℕ, ◌+◌, ◌<◌, ◌≤◌}
use mathlib.Core.Path.{◌≡◌, sym, ◌∙◌}
use mathlib.Core.Bool.{Bool, true, false, true≢false}
use mathlib.Core.List.{List}
use Rattle.std.specs.Prelude.{Option, Some, None}
use native.Mathlib.Decide.{dec_lt, ℕ_discrete}
use native.Mathlib.Omega.{arith}
use borrow.Author.Count.{below_more}
use lib.ListN.{get_or}
use Rattle.model.specs.Graph.{Graph, Friends}
use Rattle.next_friend.specs.Next.{Next, NextFriend}

-- from a member on, the friends of m below k are seen
pub record Passed (g : Graph) (m : ℕ) (seen : List ℕ) (from k : ℕ) : Type 0 where
  pub onward : from ≤ k
  pub passed : (j : ℕ) → j < k → from ≤ j → Friends g m j → 1 ≤ get_or seen j 0

module _ {g : Graph} {m : ℕ} {seen : List ℕ} {from k : ℕ} (x : Passed g m seen from k) where
  -- k is seen
  pub pass_seen : (get_or seen k 0 ≡ 0 → ⊥) → Passed g m seen from (k + 1)
  pass_seen h = record { onward = omega (arith, x.onward); passed = below_more _ _ x.passed (λ a f. omega arith) }

  -- k is no friend
  pub pass_stranger : {r : Bool} → r ≡ g.friends m k → r ≡ false → Passed g m seen from (k + 1)
  pass_stranger e n = record {
    onward = omega (arith, x.onward);
    passed = below_more _ _ x.passed (λ a f. absurd (true≢false (sym f ∙ sym e ∙ n)));
  }

  -- k is a friend, and unseen
  pub pass_stop : {end : ℕ} {r : Bool} → k ≤ end → r ≡ g.friends m k → r ≡ true → get_or seen k 0 ≡ 0 → Next g m seen from end k
  pass_stop b e y z = record { onward = x.onward; within = b; passed = x.passed; stops = λ l. (sym e ∙ y, z) }

-- nobody is left
pub pass_end : {g : Graph} {m : ℕ} {seen : List ℕ} {from k end : ℕ} → Passed g m seen from k → k ≡ end → Next g m seen from end end
pass_end x e = record { onward = rw (← e) x.onward; within = omega arith; passed = rw (← e) x.passed; stops = λ l. absurd (omega arith) }

-- nobody stands below m: it is the next above m, who is no friend of itself
next_above : {g : Graph} {m : ℕ} {seen : List ℕ} {from end r : ℕ} → Next g m seen from m m → g.friends m m ≡ false → Next g m seen (m + 1) end r
    → Next g m seen from end r
next_above {m = m} x n y = record {
  onward = omega (arith, x.onward, y.onward);
  within = y.within;
  passed = λ j b a f.
      elim (ℕ_discrete j m) [
        | yes e ↦ absurd (true≢false (sym (rw e at f) ∙ n))
        | no d ↦ elim (dec_lt j m) [ yes s ↦ x.passed j s a f | no s ↦ y.passed j b (omega arith) f ]
      ];
  stops = y.stops;
}

pub friend_above : {g : Graph} {m : ℕ} {seen : List ℕ} {from : ℕ} (end : ℕ) → Next g m seen from m m → g.friends m m ≡ false → (r : Option ℕ)
    → NextFriend g m seen (m + 1) end r
    → NextFriend g m seen from end r
friend_above end x n (Some k) y = (next_above x n y.0, y.1)
friend_above end x n None y = next_above x n y

-- the next stands below m
pub friend_below : {g : Graph} {m : ℕ} {seen : List ℕ} {from end k : ℕ} → m ≤ end → Next g m seen from m k × (k < m) → Next g m seen from end k × (k < end)
friend_below b (x, l) = (record { onward = x.onward; within = omega arith; passed = x.passed; stops = λ a. x.stops l }, omega arith)
