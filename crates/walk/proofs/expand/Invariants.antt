use Rattle.std.proofs.Common.{◌-◌, ◌≤◌}
use Rattle.network.specs.Worlds.{members_in, graph_in}
use Rattle.walk.specs.Walks.{sought, Expanded}
use Rattle.walk.proofs.expand.Given as goal

abbrev pub invariant-loop-k : goal.invariant-loop-k
invariant-loop-k l =
    (l.from ≤ members_in l.world) × Expanded (graph_in l.world) l.m (sought (members_in l.world) l.u) l.initial.seen l.from l.low l.seen

abbrev pub decreases-loop-k : goal.decreases-loop-k
decreases-loop-k l = members_in l.world - l.from
