use lib.Bits.{bit_and}
use Rattle.model.proofs.Deciding.{decided, iff, is_eq}
use Rattle.validity.proofs.Choosing.{subset_has, has_subset}
use Rattle.validity.proofs.subset.Goals as goal

pub returns : goal.returns
returns c =
    let set = c.args.set in
    let mask = c.args.mask in
    decided (iff (λ e p h. subset_has set mask p e h) (has_subset set mask c.ranges.set.fits) (is_eq (bit_and set mask) set))
