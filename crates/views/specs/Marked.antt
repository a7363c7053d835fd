-- What is held of the viewer of a question.
use Rattle.std.specs.Prelude.{ℕ, ◌<◌, IfSome}
use Rattle.finding.specs.Everyone.{Everyone}
use Rattle.network.specs.Worlds.{members_in, world_in}
use Rattle.prepared.specs.Prepared.{Prepared}
use Rattle.views.specs.declared.Viewer.{Viewer}

-- what policies read of v was prepared, and exactly the members that v finds are marked
pub record MarkedFor (s : Viewer) (v : ℕ) : Type 0 where
  pub member : v < members_in s.world
  pub prepared : Prepared s.world.scheme.bytes.now s.world.network.now v s.places.distances s.places.rows s.places.persons
  pub everyone : Everyone (world_in s.world) v s.found

-- for the viewer that it names, if it names one
abbrev pub Marked : Viewer → Type 0
Marked s = IfSome s.v (MarkedFor s)
