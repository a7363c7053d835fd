use Rattle.std.proofs.Common.{get_or, arith}
use Rattle.std.proofs.lemmas.Result.{err_from_is_err_and}
use Rattle.model.specs.Calls.{Called}
use Rattle.model.specs.Requests.{view, answered}
use Rattle.model.specs.Questions.{FilledIn}
use Rattle.views.specs.Answered.{question_of}
use Rattle.views.proofs.Answering.{nobody, one_filled, list_refused, list_granted}
use Rattle.views.proofs.Filling.{one_more, all_filled}
use Rattle.views.proofs.views.Goals as goal

pub returns-in_err-world : goal.returns-in_err-world
returns-in_err-world c =
    let p = err_from_is_err_and c.from_residual.result c.from_residual.ensures.1 in
    rw (p.1, p.2) (list_refused _ _ _ _ c.in_err-world.ensures)

pub loop-question-preserved : goal.loop-question-preserved
loop-question-preserved c =
    let l = c.loop-question in
    let (s, net, m, f) = l.invariant in
    let i = l.question-index in
    let q = get_or l.questions i nobody in
    let k = c.answer-question.result in
    let (w, marked) = c.view.ensures.marked in
    let viewed : Called c.args.scheme.now c.args.network.now (answered (view q.viewer q.owner q.item) k) c.args.network.now = rw c.answer-question.ensures (rw (s, net) at c.view.ensures.answer) in
    let same = f.kept i (omega arith) in
    (rw w s, rw w net, marked, one_more question_of (FilledIn c.args.scheme.now c.args.network.now) nobody _ f (omega arith) (one_filled _ q k same viewed))

pub returns : goal.returns
returns c =
    let (s, net, m, f) = c.loop-question.invariant in
    list_granted _ _ c.in_ok-world.ensures (all_filled question_of (FilledIn c.args.scheme.now c.args.network.now) nobody f (omega arith))
