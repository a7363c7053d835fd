-- Event, by what was judged.
use Rattle.std.proofs.lemmas.Result.{err_from_is_err_and}
use Rattle.changes.proofs.Changing.{event_refused, event_judged, event_0}
use Rattle.changes.proofs.event.Goals as goal

pub returns-in_err-world : goal.returns-in_err-world
returns-in_err-world c =
    let p = err_from_is_err_and c.from_residual.result c.from_residual.ensures.1 in
    rw (p.1, p.2) (event_refused _ _ _ _ _ _ c.in_err-world.ensures)

pub returns-in_err-state : goal.returns-in_err-state
returns-in_err-state c =
    let p = err_from_is_err_and c.from_residual-in_err-state.result c.from_residual-in_err-state.ensures.1 in
    rw (p.1, p.2)
    (event_judged c.in_ok-world.ensures c.args.a c.next_state-next.result c.if-a-world.false c.if-v-u.false c.next_state-next.ensures _ c.in_err-state.ensures)

pub returns : goal.returns
returns c =
    event_0 c.in_ok-world.ensures c.args.a c.next_state-next.result c.if-a-world.false c.if-v-u.false c.next_state-next.ensures _ _
    c.in_ok-state.ensures.1 c.in_ok-state.ensures.0 c.pair_place-place.ensures.0
