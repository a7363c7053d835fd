-- An accessor as clauses see it.
use Rattle.std.specs.Prelude.{ℕ, List}
use Rattle.model.specs.Finding.{World}
use Rattle.model.specs.Graph.{Graph}
use Rattle.network.specs.Ready.{world_of, graph_of}

-- the bytes of the world, and the member that asks
pub record Asking : Type 0 where
  pub scheme : List ℕ
  pub network : List ℕ
  pub v : ℕ

abbrev pub world_asked : Asking → World
world_asked a = world_of a.scheme a.network

abbrev pub graph_asked : Asking → Graph
graph_asked a = graph_of a.scheme a.network
