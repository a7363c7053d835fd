use Rattle.degree.proofs.Telling.{degree_9, degree_told}
use Rattle.degree.proofs.degree.Goals as goal

pub returns-then-not-found : goal.returns-then-not-found
returns-then-not-found c = degree_9 c.in_ok-world.ensures c.if-not-found.ensures

pub returns : goal.returns
returns c = degree_told c.in_ok-world.ensures c.if-not-found.ensures c.fill.ensures c.read.ensures
