use Rattle.std.proofs.Common.{arith}
use Rattle.validity.proofs.Choosing.{chosen_none, chosen_more}
use Rattle.validity.proofs.chosen.Goals as goal

pub loop-m-init : goal.loop-m-init
loop-m-init c = chosen_none _ _ _

pub loop-m-preserved : goal.loop-m-preserved
loop-m-preserved c = chosen_more (c.requires.by_index c.loop-m.m (omega arith)) c.loop-m.invariant
