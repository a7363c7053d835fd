use Rattle.sets.proofs.Words.{rest_has}
use Rattle.sets.proofs.has.Goals as goal

pub returns : goal.returns
returns c = rest_has _ _ _ c.rest.ensures
