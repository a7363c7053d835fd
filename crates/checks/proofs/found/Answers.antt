-- What was asked of the accessor is what is asked of the world.
use Rattle.checks.proofs.found.Goals as goal

pub returns-else-near : goal.returns-else-near
returns-else-near c = let (p, d, e) = c.ask.ensures in rw e at d
