-- A set that is refused before it is looked at.
use Rattle.std.proofs.lemmas.Result.{err_from_is_err_and}
use Rattle.changes.proofs.Changing.{set_refused}
use Rattle.changes.proofs.set.Goals as goal

pub returns-in_err-world : goal.returns-in_err-world
returns-in_err-world c =
    let p = err_from_is_err_and c.from_residual.result c.from_residual.ensures.1 in
    rw (p.1, p.2) (set_refused _ _ _ _ _ _ c.in_err-world.ensures)
