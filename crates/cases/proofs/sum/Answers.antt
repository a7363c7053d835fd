use Rattle.std.proofs.Common.{arith, rules}
use Rattle.cases.proofs.Summing.{halves_none, halves_next}
use Rattle.cases.proofs.sum.Goals as goal

pub loop-byte-init : goal.loop-byte-init
loop-byte-init c = (omega arith, omega arith, halves_none _)

pub loop-byte-preserved : goal.loop-byte-preserved
loop-byte-preserved c = (omega arith, omega arith, halves_next c.loop-byte.invariant.2 (search rules))
