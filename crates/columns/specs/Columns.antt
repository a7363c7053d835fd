-- Columns: a byte for each member, whose bits tell of members one after the other.
use Rattle.std.specs.Prelude.{ℕ, ◌+◌, ◌*◌, ◌%◌, ◌^◌, ◌≤◌, ◌<◌, ◌≡◌, Bool, ◌||◌, List, [], ◌⊎◌, length, get_or}
use Rattle.std.specs.Int.Bits.{bit_or}
use Rattle.model.specs.Bytes.{bit}
use Rattle.model.proofs.Sets.{Built}
use Rattle.sets.specs.Rows.{row_bit}

-- the flags of the members from one on, below the end, are added as bit t of their columns; all others are as they were
pub record FlagsAdded (flags : List ℕ) (t from end : ℕ) (columns columns' : List ℕ) : Type 0 where
  pub long : length columns' ≡ length columns
  pub each : (m : ℕ) → from ≤ m → m < end → get_or columns' m 0 ≡ bit_or (get_or columns m 0) (get_or flags m 0 * 2 ^ t % 2 ^ 8)
  pub kept : (m : ℕ) → (m < from) ⊎ (end ≤ m) → get_or columns' m 0 ≡ get_or columns m 0

-- the first t bits of m's column tell f m; it has no other
pub record Columns (f : ℕ → ℕ → Bool) (t : ℕ) (columns : List ℕ) : Type 0 where
  pub long : length columns ≡ 256
  pub each : (m : ℕ) → m < 256 → Built (f m) t (get_or columns m 0)

-- row' is the row with the byte's eight bits added from a member on
pub record ByteAdded (row : List ℕ) (from byte : ℕ) (row' : List ℕ) : Type 0 where
  pub here : (t : ℕ) → t < 8 → row_bit row' (from + t) ≡ (row_bit row (from + t) || bit byte t)
  pub below : (m : ℕ) → m < from → row_bit row' m ≡ row_bit row m
  pub above : (m : ℕ) → from + 8 ≤ m → row_bit row' m ≡ row_bit row m

-- the columns of the members below end stand in their rows and are empty; all others are as they were
pub record ColumnsPut (columns : List ℕ) (from end : ℕ) (rows : List (List ℕ)) (columns' : List ℕ) (rows' : List (List ℕ)) : Type 0 where
  pub columns_long : length columns' ≡ length columns
  pub rows_long : length rows' ≡ length rows
  pub each : (m : ℕ) → m < end → ByteAdded (get_or rows m []) from (get_or columns m 0) (get_or rows' m [])
  pub kept : (m : ℕ) → end ≤ m → get_or rows' m [] ≡ get_or rows m []
  pub empty : (m : ℕ) → m < end → get_or columns' m 0 ≡ 0
  pub rest : (m : ℕ) → end ≤ m → get_or columns' m 0 ≡ get_or columns m 0
