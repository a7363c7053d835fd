use Rattle.std.proofs.Common.{ℕ, ◌&&◌, arith}
use Rattle.model.specs.Bytes.{bit}
use Rattle.model.proofs.Counting.{count_le}
use Rattle.sets.proofs.CommonBits.{ones_common}
use Rattle.sets.proofs.common.Goals as goal

pub returns : goal.returns
returns c =
    let x = c.args.x in
    let y = c.args.y in
    let z = c.args.z in
    let e = ones_common x y z c.ranges.x.fits c.ranges.y.fits c.ranges.z.fits in
    (e, omega (arith, e, count_le (λ (m : ℕ). bit x m && bit y m && bit z m) 64))
