use Rattle.validity.proofs.Choosing.{up_to}
use Rattle.validity.proofs.up_to.Goals as goal

pub returns : goal.returns
returns c p = up_to c.args.most p c.requires
