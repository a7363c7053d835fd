use Rattle.prepared.specs.Reading.{Farthest}
use Rattle.prepared.proofs.farthest.Given as goal

abbrev pub invariant-loop-p : goal.invariant-loop-p
invariant-loop-p l = Farthest l.scheme.bytes.now l.p l.most
