use Rattle.replay.proofs.Filling.{continued}
use Rattle.replay.proofs.continued.Goals as goal

pub returns : goal.returns
returns c = continued
