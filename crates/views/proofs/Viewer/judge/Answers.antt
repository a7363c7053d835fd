use Rattle.std.proofs.Common.{arith}
use Rattle.views.proofs.Marking.{mark_tells}
use Rattle.views.proofs.Viewer.judge.Goals as goal

pub judge_found-requires : goal.judge_found-requires
judge_found-requires c =
    let (s, net, v) = c.new-accessor.ensures in
    let r = c.args.self.now.world.ready.counts in
    rw (s, net, v) (omega (arith, r.members), omega (arith, r.primitives, r.items), mark_tells c.requires.0.everyone (omega (arith, r.members)))
