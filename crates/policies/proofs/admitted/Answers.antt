use Rattle.std.proofs.Common.{arith}
use Rattle.model.proofs.Deciding.{says, is_so}
use Rattle.relation.proofs.Relating.{related_less}
use Rattle.policies.proofs.admitted.Goals as goal

pub judged-requires : goal.judged-requires
judged-requires c =
    let counts = c.accessor.inside.world.now.ready.counts in
    let asked = rw (← c.accessor.view_is) at c.requires in
    let related = rw (← c.accessor.view_is) at c.of_prepared-relation.ensures in (
      related_less
          (λ k (q, f, l, e). (q, omega arith, omega (arith, counts.policies, asked.3), e))
          (is_so (says c.kinds_of-asked.ensures.known))
          (is_so (says c.kinds_of-asked.ensures.clique))
          related,
      asked.0,
      omega (arith, counts.members, asked.1),
      c.accessor.invariant.0,
      asked.2,
      omega (arith, counts.policies, asked.3),
    )
