use Rattle.std.proofs.Common.{arith}
use Rattle.lines.proofs.Putting.{puts_line}
use Rattle.lines.proofs.Text.line.Goals as goal

pub returns : goal.returns
returns c =
    let a = c.args in
    (puts_line a.position a.answer a.friends.now c.number.ensures.0 (rw c.from.ensures at c.spaced_number.ensures.0) c.list.ensures.0 c.push.ensures.0, omega arith)
