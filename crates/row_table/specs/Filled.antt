-- The friend rows of all members.
use Rattle.std.specs.Prelude.{ℕ, ◌≤◌, ◌≡◌, List, [], length, get_or}
use Rattle.model.specs.Graph.{Graph}
use Rattle.sets.specs.Rows.{AllRows}

-- every member's row is written; the rows at or above the number of members are as they were
pub record RowsFilled (g : Graph) (before after : List (List ℕ)) : Type 0 where
  pub long : length after ≡ length before
  pub each : AllRows g after
  pub kept : (m : ℕ) → g.members ≤ m → get_or after m [] ≡ get_or before m []
