-- Least numbers of friendships.
use Rattle.std.specs.Prelude.{ℕ, ◌≤◌, ◌<◌, ◌≡◌, List, get_or}
use Rattle.model.specs.Graph.{Graph}
use Rattle.distance_mark.specs.Mark.{distance_at, IsDistance}

-- at each member stands the mark of its distance to v, up to the limit; behind the members stands 0
pub record Distances (g : Graph) (v limit : ℕ) (distances : List ℕ) : Type 0 where
  pub each : (m : ℕ) → m < g.members → IsDistance g limit m v (distance_at (get_or distances m 0))
  pub outside : (m : ℕ) → g.members ≤ m → get_or distances m 0 ≡ 0
