use Rattle.std.proofs.Common.{suc, arith, ◌∙◌}
use Rattle.replay.proofs.fill.Goals as goal

pub loop-network-preserved : goal.loop-network-preserved
loop-network-preserved c =
    let (count, steps, same) = c.loop-network.invariant in
    let (more, room) = c.loop-network-test.ensures in
    (suc count, (_, steps, (more, omega (arith, room, c.room.ensures)), c.step-here.ensures.stepped), c.step-here.ensures.same_reference ∙ same)
