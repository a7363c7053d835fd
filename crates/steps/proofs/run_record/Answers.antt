use Rattle.std.specs.Prelude.{Some, ◌≡◌}
use Rattle.std.proofs.Common.{◌∙◌, refl}
use Rattle.std.proofs.Math.Seq.{length-take-le}
use Rattle.steps.proofs.Stepping.{counted, step_next}
use Rattle.steps.proofs.run_record.Goals as goal

pub returns-in-Some-next-clause-stepped : goal.returns-in-Some-next-clause-stepped
returns-in-Some-next-clause-stepped c =
    let a = c.args in
    let p = c.play in
    let line = c.in-Some.line in
    let e : line.next ≡ Some c.in-Some-next.following = c.in-Some-next.is in
    step_next a.scheme.now a.log.now a.network.now a.text.now.buffer.now a.text.now.used a.place a.position a.size _ p.new.network p.new.output line.answer c.in-Some-next.following refl (rw e at c.in-Some.ensures) _ _ _ _ c.answer.ensures (c.unwrap_or-count.ensures ∙ counted line.answer) (p.auto.network ∙ length-take-le _ _ c.requires.1) c.line.ensures.0.put
