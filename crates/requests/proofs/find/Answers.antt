-- Find, by what was tested.
use Rattle.std.proofs.lemmas.Result.{err_from_is_err_and}
use Rattle.model.proofs.Deciding.{said_yes, said_no}
use Rattle.requests.proofs.Answering.{find_refused, find_9, find_0}
use Rattle.requests.proofs.find.Goals as goal

pub returns-in_err-world : goal.returns-in_err-world
returns-in_err-world c =
    let p = err_from_is_err_and c.from_residual.result c.from_residual.ensures.1 in
    rw (p.1, p.2) (find_refused _ _ _ _ _ c.in_err-world.ensures)

pub returns-then-not-found : goal.returns-then-not-found
returns-then-not-found c = find_9 c.in_ok-world.ensures (said_no c.if-not-found.true c.found.ensures)

pub returns : goal.returns
returns c = find_0 c.in_ok-world.ensures (said_yes c.if-not-found.false c.found.ensures)
