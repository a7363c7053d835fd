use Rattle.columns.specs.Columns.{ColumnsPut}
use Rattle.columns.proofs.put.Given as goal

abbrev pub invariant-loop-m : goal.invariant-loop-m
invariant-loop-m l = ColumnsPut l.fn.columns l.from l.m l.fn.rows l.columns l.rows
