use Rattle.suggestions.proofs.Ranking.{ranks_none}
use Rattle.suggestions.proofs.SuggestAnswers.{suggest_0}
use Rattle.suggestions.proofs.suggest.Goals as goal

pub write_ranks_for-requires : goal.write_ranks_for-requires
write_ranks_for-requires c = (c.in_ok-world.ensures.viewer, ranks_none)

pub returns : goal.returns
returns c = suggest_0 c.in_ok-world.ensures c.write_ranks_for.ensures c.if-output-c.false c.fill.ensures
