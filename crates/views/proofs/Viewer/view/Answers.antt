use Rattle.std.proofs.Common.{refl, ◌+◌, Some}
use Rattle.std.proofs.lemmas.Result.{err_from_is_err_and}
use Rattle.network.specs.Worlds.{world_in}
use Rattle.opening.specs.Opened.{WorldOf}
use Rattle.checks.specs.Judged.{Judged}
use Rattle.checks.proofs.Judging.{judged_answers}
use Rattle.requests.proofs.Answering.{view_refused, view_judged}
use Rattle.views.proofs.Viewer.view.Goals as goal

pub returns-in_err-members-clause-answer : goal.returns-in_err-members-clause-answer
returns-in_err-members-clause-answer c =
    let p = err_from_is_err_and c.from_residual.result c.from_residual.ensures.1 in
    rw (p.1, p.2) (view_refused _ _ _ _ _ c.in_err-members.ensures _)

pub returns-clause-answer : goal.returns-clause-answer
returns-clause-answer c =
    let w = c.args.self.now.world in
    let v = c.args.v in
    let u = c.args.u in
    let r = 2 + w.scheme.counts.primitives + c.args.o in
    let h : WorldOf w.scheme.bytes.now w.network.now v u w = record { scheme = refl; network = refl; viewer = c.in_ok-members.ensures.0; other = c.in_ok-members.ensures.1 } in
    let j : Judged (world_in w) v u r (Some tt) c.judge.result = rw c.mark.ensures.0 at c.judge.ensures in
    view_judged h _ _ c.if-o-counts.false (judged_answers (world_in w) v u r (Some tt) c.judge.result j)
