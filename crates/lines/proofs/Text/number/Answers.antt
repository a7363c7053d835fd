use Rattle.std.proofs.Common.{◌≤◌, arith}
use Rattle.lines.proofs.Putting.{puts_as, fewest_most, is_decimal}
use Rattle.lines.proofs.Text.number.Goals as goal

pub extend-requires : goal.extend-requires
extend-requires c =
    let d = c.decimal-k in
    let k : d.result ≤ 5 = fewest_most c.from.result d.result (omega arith) d.ensures.len in
    omega arith

pub returns : goal.returns
returns c =
    let d = c.decimal-k in
    let n = c.from.result in
    let k : d.result ≤ 5 = fewest_most n d.result (omega arith) d.ensures.len in
    (rw c.from.ensures at (puts_as c.extend.ensures.0 (is_decimal n d.result _ k d.ensures.len d.ensures.digits)), omega arith)
