-- Rows: a set of members as 256 bits in four words of 64.
use Rattle.std.specs.Prelude.{ℕ, ◌/◌, ◌%◌, ◌≤◌, ◌<◌, ◌≡◌, Bool, false, not, List, [], get_or}
use Rattle.model.specs.Bytes.{bit}
use Rattle.model.specs.Graph.{Graph}

-- bit m of a row: bit m % 64 of its word m / 64
abbrev pub row_bit : List ℕ → ℕ → Bool
row_bit row m = bit (get_or row (m / 64) 0) (m % 64)

-- bit m is set exactly where m is a friend of u; none at or above the number of members
pub record FriendRow (g : Graph) (u : ℕ) (row : List ℕ) : Type 0 where
  pub bits : (m : ℕ) → m < 256 → row_bit row m ≡ g.friends u m
  pub none_above : (m : ℕ) → g.members ≤ m → row_bit row m ≡ false

-- the rows of all members
abbrev pub AllRows : Graph → List (List ℕ) → Type 0
AllRows g rows = (m : ℕ) → m < g.members → FriendRow g m (get_or rows m [])

-- bit m is set exactly where m is no group
pub record PersonRow (g : Graph) (row : List ℕ) : Type 0 where
  pub bits : (m : ℕ) → m < 256 → row_bit row m ≡ not (g.group m)
