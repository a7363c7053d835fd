use Rattle.model.specs.Decides.{Decides}
use Rattle.prepared.specs.Reading.{SomeOfKind}
use Rattle.prepared.proofs.kinds_of.Given as goal

abbrev pub invariant-loop-p : goal.invariant-loop-p
invariant-loop-p l = record {
  known : Decides l.known (SomeOfKind 4 l.scheme.bytes.now l.from l.p);
  clique : Decides l.clique (SomeOfKind 5 l.scheme.bytes.now l.from l.p);
}
