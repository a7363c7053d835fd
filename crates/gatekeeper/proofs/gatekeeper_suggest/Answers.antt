use Rattle.gatekeeper.proofs.Telling.{suggest_told}
use Rattle.gatekeeper.proofs.gatekeeper_suggest.Goals as goal

pub returns : goal.returns
returns c = rw (c.tell.ensures.0, c.tell.ensures.1) (suggest_told c.suggest.result c.args.count.now c.suggest.ensures)
