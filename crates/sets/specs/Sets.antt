-- Operations on sets of members as rows of 256 bits.
use Rattle.std.specs.Prelude.{ℕ, ◌+◌, ◌%◌, ◌≤◌, ◌<◌, ◌≡◌, Bool, true, false, ◌&&◌, ◌||◌, List, [], get_or, Option, None, Some, ◌↔◌, length}
use Rattle.model.specs.Bytes.{bit}
use Rattle.model.specs.Graph.{Graph, count, shared}
use Rattle.sets.specs.Rows.{row_bit, FriendRow, PersonRow}

-- member m's row is written; all others are as they were
pub record RowPut (before : List (List ℕ)) (m : ℕ) (row : List ℕ) (after : List (List ℕ)) : Type 0 where
  pub long : length after ≡ length before
  pub here : get_or after m [] ≡ row
  pub kept : (k : ℕ) → (k ≡ m → ⊥) → get_or after k [] ≡ get_or before k []

-- r has the members of both a and b
pub record Meet (a b r : List ℕ) : Type 0 where
  pub bits : (m : ℕ) → row_bit r m ≡ (row_bit a m && row_bit b m)

-- r has the members of a and those of b
pub record Join (a b r : List ℕ) : Type 0 where
  pub bits : (m : ℕ) → row_bit r m ≡ (row_bit a m || row_bit b m)

abbrev pub Has : List ℕ → ℕ → Type 0
Has set m = row_bit set m ≡ true

-- bit q of r is m + q of the set, to the end of m's word
pub record Rest (set : List ℕ) (m r : ℕ) : Type 0 where
  pub bits : (q : ℕ) → m % 64 + q < 64 → bit r q ≡ row_bit set (m + q)
  pub ends : (q : ℕ) → bit r q ≡ true → m % 64 + q < 64

-- r is the set's first member at or above from; 256 where there is none
pub record FirstFrom (set : List ℕ) (from r : ℕ) : Type 0 where
  pub small : r ≤ 256
  pub later : from ≤ 256 → from ≤ r
  pub here : r < 256 → Has set r
  pub none : (m : ℕ) → from ≤ m → m < r → row_bit set m ≡ false

-- the set's first member at or above from, if there is one
abbrev pub FirstMember : List ℕ → ℕ → Option ℕ → Type 0
FirstMember set from (Some r) = FirstFrom set from r × (r < 256)
FirstMember set from None = FirstFrom set from 256

-- whether the set has a member
pub record NotEmpty (set : List ℕ) (answer : Bool) : Type 0 where
  pub tells : (answer ≡ true) ↔ ((m : ℕ) × Has set m)

-- how many bits three rows have in common: the number of shared friends, where they are friend rows of a graph of at most 256 members
-- and its row of persons
pub record CommonBits (a b c : List ℕ) (r : ℕ) : Type 0 where
  pub counted : r ≡ count (λ m. row_bit a m && row_bit b m && row_bit c m) 256
  pub shares : (g : Graph) (u v : ℕ) → g.members ≤ 256 → FriendRow g u a → FriendRow g v b → PersonRow g c → r ≡ shared g u v
