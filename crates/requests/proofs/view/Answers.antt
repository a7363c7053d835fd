-- View, by what was judged.
use Rattle.std.proofs.Common.{◌+◌, Some}
use Rattle.std.proofs.lemmas.Result.{err_from_is_err_and}
use Rattle.network.specs.Worlds.{world_in}
use Rattle.checks.proofs.Judging.{judged_answers}
use Rattle.requests.proofs.Answering.{view_refused, view_judged}
use Rattle.requests.proofs.view.Goals as goal

pub returns-in_err-world : goal.returns-in_err-world
returns-in_err-world c =
    let p = err_from_is_err_and c.from_residual.result c.from_residual.ensures.1 in
    rw (p.1, p.2) (view_refused _ _ _ _ _ c.in_err-world.ensures _)

pub returns : goal.returns
returns c =
    let w = c.in_ok-world.world in
    view_judged c.in_ok-world.ensures _ _ c.if-o-counts.false
    (judged_answers (world_in w) c.args.v c.args.u (2 + w.scheme.counts.primitives + c.args.o) (Some tt) c.judge.result c.judge.ensures)
