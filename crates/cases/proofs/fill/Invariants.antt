use Rattle.cases.specs.Places.{Filled}
use Rattle.cases.proofs.fill.Given as goal

abbrev pub invariant-loop-i : goal.invariant-loop-i
invariant-loop-i l = Filled l.output l.i
