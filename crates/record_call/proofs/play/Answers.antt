use Rattle.std.specs.Prelude.{Some, Ok, Err, None, ◌≡◌}
use Rattle.std.proofs.Common.{refl, ap, ◌∙◌, length}
use Rattle.log_records.specs.Read.{Read}
use Rattle.record_call.proofs.Calling.{went, last_line, no_line}
use Rattle.record_call.proofs.play.Goals as goal

pub returns-in_err-answer : goal.returns-in_err-answer
returns-in_err-answer c =
    let a = c.args in
    let e : c.next_at-step.result.answer ≡ None = c.in_err-answer.was in
    rw c.from_residual.ensures (no_line a.scheme.now a.log.now a.place a.network.now a.output.now (rw e at c.next_at-step.ensures))

pub returns-in-Ok : goal.returns-in-Ok
returns-in-Ok c =
    let a = c.args in
    let s = c.next_at-step.result in
    let e : s.answer ≡ Some c.in_ok-answer.answer = c.in_ok-answer.was in
    let f : s.answer ≡ Some (Ok c.in-Ok.request) = e ∙ ap Some c.in-Ok.is in
    went a.scheme.now a.log.now a.place a.network.now a.output.now c.in-Ok.request s.place c.call.result _ _ (rw f at c.next_at-step.ensures) c.call.ensures

pub returns-in-Err : goal.returns-in-Err
returns-in-Err c =
    let a = c.args in
    let s = c.next_at-step.result in
    let e : s.answer ≡ Some c.in_ok-answer.answer = c.in_ok-answer.was in
    let f : s.answer ≡ Some (Err c.in-Err.refusal) = e ∙ ap Some c.in-Err.is in
    last_line a.scheme.now a.log.now a.place a.network.now a.output.now c.in-Err.refusal s.place (rw f at c.next_at-step.ensures)
