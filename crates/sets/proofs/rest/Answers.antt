use Rattle.sets.proofs.Words.{rest_word}
use Rattle.sets.proofs.rest.Goals as goal

pub returns : goal.returns
returns c = rest_word _ _ c.element_fits.fits
