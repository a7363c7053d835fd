use Rattle.std.proofs.Common.{arith}
use Rattle.model.proofs.Deciding.{says, is_so}
use Rattle.rules.proofs.Rules.{within_positive}
use Rattle.relation.proofs.Relating.{related_less}
use Rattle.policies.proofs.admits_friend.Goals as goal

pub judged-requires : goal.judged-requires
judged-requires c =
    let w = c.args.world.now in (
      related_less
          (λ k (q, f, l, e). within_positive w.scheme.bytes.now w.scheme.counts w.scheme.read q k (omega arith) e)
          (λ h. tt)
          (is_so (says c.kinds_of-asked.ensures.clique))
          c.of_friends-relation.ensures,
      c.lowest-from.ensures.1,
      c.requires.0,
      c.requires.1,
      omega (arith, c.lowest-from.ensures.0),
      omega (arith, c.requires.3),
    )
