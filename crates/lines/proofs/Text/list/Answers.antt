use Rattle.std.proofs.Common.{arith}
use Rattle.lines.proofs.Putting.{puts_number_more}
use Rattle.lines.proofs.Text.list.Goals as goal

pub loop-number-preserved : goal.loop-number-preserved
loop-number-preserved c =
    let l = c.loop-number in
    let done = c.spaced_number.ensures in
    record { puts = puts_number_more c.args.numbers.now l.number-index (omega arith) l.invariant.puts done.0; end = omega (arith, l.invariant.end, done.1); room = omega (arith, done.0.put.long, l.invariant.room) }
