-- The greatest of the bytes so far.
use Rattle.records.proofs.Most.{Most, raised}
use Rattle.records.proofs.greatest.Given as goal

abbrev pub invariant-loop-b : goal.invariant-loop-b
invariant-loop-b l = Most (raised l.s l.raise) l.b-index l.most
