use Rattle.traces.specs.Ran.{Kept}
use Rattle.traces.proofs.Turning.{SoFar}
use Rattle.traces.proofs.run.Given as goal

abbrev pub invariant-loop-n : goal.invariant-loop-n
invariant-loop-n l = record {
  so_far : SoFar l.scheme l.fn.network l.encoded l.n l.answers l.counts l.lists l.network;
  kept : Kept l.n l.fn.answers l.fn.counts l.fn.lists l.answers l.counts l.lists;
}
