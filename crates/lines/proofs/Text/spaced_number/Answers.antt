use Rattle.std.proofs.Common.{arith}
use Rattle.lines.proofs.Putting.{puts_then}
use Rattle.lines.proofs.Text.spaced_number.Goals as goal

pub returns : goal.returns
returns c = (puts_then c.push.ensures.0 c.number.ensures.0, omega arith)
