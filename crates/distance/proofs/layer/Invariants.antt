use Rattle.network.specs.Worlds.{graph_in}
use Rattle.next_friend.specs.Spread.{Marked}
use Rattle.distance.specs.Marks.{Layered}
use Rattle.distance.proofs.layer.Given as goal

abbrev pub invariant-loop-m : goal.invariant-loop-m
invariant-loop-m l = record {
  layered : Layered (graph_in l.world) l.mark l.initial.distances l.m l.distances l.some;
  marked : Marked l.members l.distances l.from;
}
