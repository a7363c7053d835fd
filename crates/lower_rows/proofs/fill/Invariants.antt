use Rattle.network.specs.Worlds.{graph_in}
use Rattle.lower_rows.specs.Lower.{LowerRows}
use Rattle.lower_rows.proofs.fill.Given as goal

abbrev pub invariant-loop-m : goal.invariant-loop-m
invariant-loop-m l = LowerRows (graph_in l.world) l.from l.m l.fn.rows l.flags l.columns l.rows
