use Rattle.gatekeeper.proofs.Telling.{degree_answered}
use Rattle.gatekeeper.proofs.gatekeeper_degree.Goals as goal

pub returns : goal.returns
returns c = rw (c.tell.ensures.0, c.tell.ensures.1, c.numbered.ensures) (degree_answered c.degree.result c.args.degree.now c.degree.ensures)
