use Rattle.sets.proofs.Iterating.{first_member}
use Rattle.sets.proofs.first_from.Goals as goal

pub returns : goal.returns
returns c = first_member c.members_from.ensures _ _ c.next.ensures.steps
