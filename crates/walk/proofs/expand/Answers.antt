use Rattle.std.proofs.Common.{arith, ◌<◌, ◌≤◌}
use Rattle.model.specs.SchemeBytes.{n}
use Rattle.walk.proofs.StepsMarked.{not_sought, expand_to, expand_mark}
use Rattle.walk.proofs.expand.Goals as goal

pub loop-k-preserved : goal.loop-k-preserved
loop-k-preserved c =
    let w = c.args.world.now in
    let e = w.ready.counts.members in
    let (next, l) = c.in-Some.ensures in
    let (friend, unseen) = next.stops l in
    let below : c.in-Some.k < n w.scheme.bytes.now = omega arith in
    let small : n w.scheme.bytes.now ≤ 256 = omega (arith, w.scheme.counts.few_members) in (
      omega arith,
      rw c.min-low.ensures
          (expand_mark (expand_to c.loop-k.invariant.1 next.passed) small below friend unseen
          (not_sought w.scheme.counts.members c.in-Some.k c.args.u l c.eq.ensures c.if-eq.false)),
    )
