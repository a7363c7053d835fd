use Rattle.model.proofs.Bits.{lowest_trailing}
use Rattle.tables.proofs.lowest.Goals as goal

pub returns : goal.returns
returns c = lowest_trailing c.args.mask c.requires c.ranges.mask.fits
