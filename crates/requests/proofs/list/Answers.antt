-- List, by what was judged.
use Rattle.std.proofs.Common.{arith}
use Rattle.std.proofs.lemmas.Result.{err_from_is_err_and}
use Rattle.requests.proofs.Answering.{list_refused, list_judged, list_0}
use Rattle.requests.proofs.list.Goals as goal

pub returns-in_err-world : goal.returns-in_err-world
returns-in_err-world c =
    let p = err_from_is_err_and c.from_residual.result c.from_residual.ensures.1 in
    rw (p.1, p.2) (list_refused _ _ _ _ _ c.in_err-world.ensures _)

pub returns-in_err-judge : goal.returns-in_err-judge
returns-in_err-judge c =
    let p = err_from_is_err_and c.from_residual-in_err-judge.result c.from_residual-in_err-judge.ensures.1 in
    rw (p.1, p.2) (list_judged c.in_ok-world.ensures c.args.output.now (omega arith) _ c.in_err-judge.ensures)

pub returns : goal.returns
returns c = list_0 c.in_ok-world.ensures c.args.output.now (omega arith) c.in_ok-judge.ensures.0 c.write.ensures
