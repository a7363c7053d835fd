use Rattle.std.proofs.Common.{arith}
use Rattle.files.proofs.Moving.{appends_more}
use Rattle.files.proofs.write.Goals as goal

pub loop-interrupted-preserved-in-Ok : goal.loop-interrupted-preserved-in-Ok
loop-interrupted-preserved-in-Ok g c =
    (omega (arith, c.in-Ok.ensures.within), omega arith, appends_more _ _ _ _ _ _ c.loop-interrupted.invariant.2 c.in-Ok.ensures.bytes)
