-- Rows as far as the members below go.
use Rattle.std.specs.Prelude.{ℕ, ◌+◌, ◌-◌, ◌/◌, ◌%◌, ◌≤◌, ◌<◌, ◌≡◌, Bool, false, ◌&&◌, List, [], ◌⊎◌, ltb, length, get_or}
use Rattle.model.specs.Bytes.{digit}
use Rattle.model.specs.Graph.{Graph}
use Rattle.sets.specs.Rows.{row_bit}
use Rattle.columns.specs.Columns.{Columns}

-- flags of the members below m
pub record FlagsBelow (m : ℕ) (flags : List ℕ) : Type 0 where
  pub long : length flags ≡ 256
  pub small : (k : ℕ) → get_or flags k 0 ≤ 1
  pub none_above : (k : ℕ) → m ≤ k → get_or flags k 0 ≡ 0

-- a row whose bits are the flags
abbrev pub RowOfFlags : List ℕ → List ℕ → Type 0
RowOfFlags flags row = (k : ℕ) → k < 256 → digit (get_or row (k / 64) 0) (k % 64) ≡ get_or flags k 0

-- the row has u's friends below a member, and no other
pub record RowBelow (g : Graph) (u end : ℕ) (row : List ℕ) : Type 0 where
  pub bits : (m : ℕ) → m < end → row_bit row m ≡ g.friends u m
  pub none_above : (m : ℕ) → end ≤ m → row_bit row m ≡ false

-- whether m is a friend of the member that is t above from, and below it
abbrev pub column_of : Graph → ℕ → ℕ → ℕ → Bool
column_of g from m t = ltb m (from + t) && g.friends m (from + t)

-- the members from one on, below the end, have their rows as far as the members below each go; all other rows are as they were;
-- the columns tell of these members
pub record LowerRows (g : Graph) (from end : ℕ) (rows : List (List ℕ)) (flags columns : List ℕ) (rows' : List (List ℕ)) : Type 0 where
  pub long : length rows' ≡ length rows
  pub each : (m : ℕ) → from ≤ m → m < end → RowBelow g m m (get_or rows' m [])
  pub kept : (m : ℕ) → (m < from) ⊎ (end ≤ m) → get_or rows' m [] ≡ get_or rows m []
  pub flagged : FlagsBelow end flags
  pub told : Columns (column_of g from) (end - from) columns
