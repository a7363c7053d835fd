-- Places of an array: what a store changes.
use Prim.Native.Nat.{ℕ, ◌<◌}
use mathlib.Core.Path.{◌≡◌}
use mathlib.Core.List.{List}
use mathlib.Core.Logic.{◌⊎◌}
use native.Mathlib.Omega.{arith}
use lib.ListN.{length, get_or, set}
use Rattle.next_friend.proofs.Spreading.{after}

-- a store changes one place of the 256: at k stands the a that was stored at i, or what stood there
abbrev pub Stored : List ℕ → ℕ → ℕ → ℕ → Type 0
Stored l i a k = ((k ≡ i) × (get_or (set l i a) k 0 ≡ a)) ⊎ ((k ≡ i → ⊥) × (get_or (set l i a) k 0 ≡ get_or l k 0))

pub one_stored : (l : List ℕ) (i a : ℕ) → length l ≡ 256 → i < 256 → (k : ℕ) → Stored l i a k
one_stored l i a e b k = after l i a k (omega arith)
