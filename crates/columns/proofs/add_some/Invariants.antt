use Rattle.columns.specs.Columns.{FlagsAdded}
use Rattle.columns.proofs.add_some.Given as goal

abbrev pub invariant-loop-m : goal.invariant-loop-m
invariant-loop-m l = FlagsAdded l.flags l.t l.from l.m l.fn.columns l.columns
