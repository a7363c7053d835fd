use Rattle.validity.specs.Chosen.{Chosen}
use Rattle.validity.proofs.chosen.Given as goal

abbrev pub invariant-loop-m : goal.invariant-loop-m
invariant-loop-m l = Chosen l.settings l.first l.stride l.m l.set
