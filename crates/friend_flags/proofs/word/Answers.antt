use Rattle.std.proofs.Common.{arith, ◌+◌, ◌*◌, ◌≡◌}
use Rattle.friend_flags.proofs.Packing.{packed_more}
use Rattle.friend_flags.proofs.word.Goals as goal

pub loop-m-preserved : goal.loop-m-preserved
loop-m-preserved c =
    let e : 8 * (c.loop-m.m + 1) ≡ 8 * c.loop-m.m + 8 = omega arith in
    rw e (packed_more _ _ (8 * c.loop-m.m) _ _ (omega arith) c.loop-m.invariant c.eight.ensures)
