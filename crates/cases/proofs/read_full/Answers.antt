use Rattle.std.proofs.Common.{rules, length, ◌≤◌}
use Rattle.cases.proofs.Reading.{consumes_more}
use Rattle.cases.proofs.read_full.Goals as goal

pub loop-done-preserved : goal.loop-done-preserved
loop-done-preserved g c =
    let bound : c.in-Ok.count ≤ length c.read.new.buf = search rules in
    (search rules, consumes_more _ _ _ _ _ _ _ _ c.loop-done.invariant.0 bound c.loop-done.invariant.1 c.in-Ok.ensures.bytes.0)
