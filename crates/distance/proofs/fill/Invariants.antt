use Rattle.std.proofs.Common.{◌+◌, ◌≤◌}
use Rattle.network.specs.Worlds.{graph_in}
use Rattle.distance.proofs.Layers.{Layers}
use Rattle.distance.proofs.fill.Given as goal

abbrev pub invariant-loop-mark : goal.invariant-loop-mark
invariant-loop-mark l = record { layers : Layers (graph_in l.world) l.v l.mark l.distances; up_to : l.mark ≤ l.limit + 1 }
