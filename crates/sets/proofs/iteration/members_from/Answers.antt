use Rattle.std.proofs.Common.{rules}
use Rattle.sets.proofs.Iterating.{starts_at, starts_beyond}
use Rattle.sets.proofs.iteration.members_from.Goals as goal
use Rattle.sets.proofs.iteration.members_from.Goals.{then-from-lt256, else-from-lt256}

pub returns : goal.returns
returns c = elim c.if-from-lt256.branch [
  | then-from-lt256 w ↦ rw w.word-is (starts_at w.rest-word.ensures)
  | else-from-lt256 w ↦ rw w.word-is (starts_beyond c.args.set c.args.from (search rules) w.if-from-lt256.false)
]
