use Rattle.std.proofs.Common.{arith}
use Rattle.files.proofs.Moving.{consumes_more}
use Rattle.files.proofs.read_all.Goals as goal

pub loop-interrupted-preserved-in-Ok : goal.loop-interrupted-preserved-in-Ok
loop-interrupted-preserved-in-Ok g c =
    (omega (arith, c.in-Ok.ensures.within), omega arith, consumes_more _ _ _ _ _ _ _ c.in-Ok.ensures.front c.loop-interrupted.invariant.2 c.in-Ok.ensures.bytes)
