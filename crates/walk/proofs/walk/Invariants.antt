use Rattle.std.proofs.Common.{◌≤◌}
use Rattle.model.specs.SchemeBytes.{n}
use Rattle.prepared.specs.Asking.{world_asked}
use Rattle.walk.specs.Walks.{sought, NobodyWaits, AllSeen, WalkFor}
use Rattle.walk.proofs.StepsMarked.{undone}
use Rattle.walk.proofs.walk.Given as goal

abbrev pub invariant-walk : goal.invariant-walk
invariant-walk l = record {
  low : l.low ≤ l.members;
  first : l.first ≤ l.members;
  nobody : NobodyWaits l.low l.seen;
  everyone : AllSeen l.first l.seen;
  walking : WalkFor (world_asked l.accessor) l.accessor.v (sought (n l.accessor.scheme) l.u) l.initial.seen l.seen;
}

abbrev pub decreases-walk : goal.decreases-walk
decreases-walk l = undone (n l.accessor.scheme) l.seen
