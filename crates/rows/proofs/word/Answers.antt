use Rattle.std.proofs.Common.{arith, ◌≡◌, ◌+◌}
use Rattle.network.proofs.Reading.{friends_own}
use Rattle.rows.proofs.RowBits.{first_skip}
use Rattle.rows.proofs.word.Goals as goal

pub greater-requires-2 : goal.greater-requires-2
greater-requires-2 c =
    let w = c.args.world.now in
    let e : c.args.u ≡ c.args.from + c.min-count.result = omega arith in
    (omega arith, c.requires.1, omega arith, first_skip c.lesser-bits.ensures (friends_own w.scheme.bytes.now w.network.now _ _ e))
