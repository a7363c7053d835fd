-- The pair bytes of a member and those on one side of it.
use Prim.Native.Nat.{ℕ, ◌%◌, ◌<◌, ◌≤◌}
use mathlib.Core.Bool.{Bool, true, false, not}
use mathlib.Core.List.{List}
use mathlib.Core.Path.{◌≡◌}
use native.Mathlib.Omega.{arith}
use borrow.Author.Tests.{ne_eqb}
use lib.Dec.{eqb}
use lib.ListN.{length, get_or}
use Rattle.model.specs.Bytes.{bit}
use Rattle.network.specs.Ready.{Ready, graph_of}
use Rattle.network.proofs.Reading.{pairs_small, pairs_more, pair_inside, friends_byte}
use Rattle.tables.specs.declared.counts.Summary.{Summary}
use Rattle.next_friend.specs.Side.{Apart, OnSide, place_on}

-- the const parameter as a bool
abbrev pub above : ℕ → Bool
above n = not (eqb n 0)

pub place_small : (above : Bool) (m k : ℕ) → m ≤ 256 → k ≤ 256 → place_on above m k ≤ 32896
place_small true m k a b = omega (arith, pairs_small k b)
place_small false m k a b = omega (arith, pairs_small m a)

pub apart_above : (n k : ℕ) → (n ≡ 0 → ⊥) → Apart (above n) k k
apart_above n k d = rw (ne_eqb n 0 d) (λ m. omega (arith, pairs_more k))

module _ {b net : List ℕ} {c : Summary} (h : Ready b c net) where
  pub place_inside : (above : Bool) (m k end : ℕ) → OnSide above m k end → k < end → m < c.members → end ≤ c.members
      → place_on above m k < length net
  place_inside true m k end o d l s = pair_inside h m k o (omega arith)
  place_inside false m k end o d l s = pair_inside h k m (omega (arith, o)) l

  pub place_friends : (above : Bool) (m k end at : ℕ) {r : Bool} → OnSide above m k end → k < end → m < c.members → end ≤ c.members
      → at ≡ place_on above m k
      → r ≡ bit c.marks (get_or net at 0 % 32)
      → r ≡ (graph_of b net).friends m k
  place_friends true m k end at o d l s e f = (friends_byte h m k at o (omega arith) e f).0
  place_friends false m k end at o d l s e f = (friends_byte h k m at (omega (arith, o)) l e f).1
