-- Everyone whom a member finds.
use Rattle.std.specs.Prelude.{ℕ, ◌≤◌, ◌<◌, ◌≡◌, List, ◌↔◌, length, get_or}
use Rattle.model.specs.Finding.{World, Finds}

-- exactly the members that v finds are marked, by a number above 0
pub record Everyone (w : World) (v : ℕ) (marks : List ℕ) : Type 0 where
  pub long : length marks ≡ 256
  pub exactly : (m : ℕ) → m < w.graph.members → (1 ≤ get_or marks m 0) ↔ Finds w v m
