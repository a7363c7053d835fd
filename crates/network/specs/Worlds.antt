-- The world that a struct holds.
use Rattle.std.specs.Prelude.{ℕ, ◌+◌}
use Rattle.model.specs.Finding.{World}
use Rattle.model.specs.Graph.{Graph}
use Rattle.model.specs.Network.{Maps, held}
use Rattle.model.specs.Scheme.{Scheme}
use Rattle.model.specs.SchemeBytes.{scheme_of}
use Rattle.network.specs.Ready.{world_of, graph_of}
use Rattle.network.specs.declared.world.World.{World as Held}

abbrev pub members_in : Held → ℕ
members_in w = w.scheme.counts.members

abbrev pub resources_in : Held → ℕ
resources_in w = 2 + w.scheme.counts.primitives + w.scheme.counts.items

abbrev pub scheme_of_world : Held → Scheme
scheme_of_world w = scheme_of w.scheme.bytes.now

abbrev pub held_in : Held → Maps
held_in w = held (scheme_of w.scheme.bytes.now) w.network.now

abbrev pub world_in : Held → World
world_in w = world_of w.scheme.bytes.now w.network.now

abbrev pub graph_in : Held → Graph
graph_in w = graph_of w.scheme.bytes.now w.network.now
