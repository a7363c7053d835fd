use Rattle.std.proofs.Common.{arith}
use Rattle.suggestions.proofs.Ranking.{ranks_next}
use Rattle.suggestions.proofs.Sources.write_ranks.Goals as goal

pub loop-m-preserved : goal.loop-m-preserved
loop-m-preserved c = ranks_next c.loop-m.invariant (omega (arith, c.args.self.now.world.scheme.counts.few_members.1)) c.rank.ensures
