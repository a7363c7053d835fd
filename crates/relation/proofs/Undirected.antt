-- The graph of a network.
use mathlib.Core.List.{List}
use Prim.Native.Nat.{ℕ}
use Rattle.model.specs.Network.{held}
use Rattle.model.specs.SchemeBytes.{scheme_of}
use Rattle.model.proofs.Symmetry.{friends_comm, none_own}
use Rattle.network.specs.Ready.{graph_of}
use Rattle.clique.specs.Cliques.{Undirected}

pub network_undirected : (b net : List ℕ) → Undirected (graph_of b net)
network_undirected b net = record {
  both_ways = friends_comm (scheme_of b) (held (scheme_of b) net);
  none_own = none_own (scheme_of b) (held (scheme_of b) net);
}
