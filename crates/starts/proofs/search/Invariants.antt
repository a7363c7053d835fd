use Rattle.prepared.specs.Asking.{world_asked}
use Rattle.starts.specs.Starts.{SearchAdded}
use Rattle.starts.proofs.search.Given as goal

abbrev pub invariant-loop-k : goal.invariant-loop-k
invariant-loop-k l = SearchAdded (world_asked l.accessor) l.accessor.v l.initial.seen l.k l.seen
