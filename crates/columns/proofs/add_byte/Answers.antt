use Rattle.columns.proofs.Putting.{byte_added}
use Rattle.columns.proofs.add_byte.Goals as goal

pub returns : goal.returns
returns c = rw c.from.ensures (byte_added _ _ _ c.told-row c.requires.0 c.requires.1 c.ranges.byte.fits)
