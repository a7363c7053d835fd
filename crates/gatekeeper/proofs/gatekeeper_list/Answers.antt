use Rattle.gatekeeper.proofs.Telling.{list_told}
use Rattle.gatekeeper.proofs.gatekeeper_list.Goals as goal

pub returns : goal.returns
returns c = rw (c.tell.ensures.0, c.tell.ensures.1) (list_told c.list.result c.args.count.now c.list.ensures)
