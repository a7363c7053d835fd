use Rattle.std.proofs.Common.{sym}
use Rattle.model.proofs.Bits.{below_no_bit}
use Rattle.tables.proofs.offered.Goals as goal

pub returns-else-p-lt32 : goal.returns-else-p-lt32
returns-else-p-lt32 c = sym (below_no_bit 32 c.args.mask c.ranges.mask.fits c.args.p c.if-p-lt32.false)
