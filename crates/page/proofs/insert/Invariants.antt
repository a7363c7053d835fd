use Rattle.page.proofs.insert.Given as goal
use Rattle.page.proofs.Entering.{Going}

abbrev pub invariant-loop-x : goal.invariant-loop-x
invariant-loop-x l = Going l.ranks l.fn.page l.m l.page l.carried l.x-index
