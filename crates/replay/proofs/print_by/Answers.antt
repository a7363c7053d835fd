use Rattle.std.proofs.lemmas.Result.{err_from_is_err_and}
use Rattle.std.proofs.Common.{rules}
use Rattle.replay.proofs.Printing.{within_buffer, fewer, sent_more, sent_cut, all_sent}
use Rattle.replay.proofs.print_by.Goals as goal

pub as_bytes-requires : goal.as_bytes-requires
as_bytes-requires g c = within_buffer c.loop-here.invariant.0 c.fill-here.ensures.fills c.new-text.ensures.empty

pub returns-in_err-written-clause-handed : goal.returns-in_err-written-clause-handed
returns-in_err-written-clause-handed g c =
    let p = err_from_is_err_and c.from_residual.result c.from_residual.ensures.1 in
    let given = rw c.as_bytes.ensures at c.in_err-written.ensures.gives in
    rw (p.1, p.2) (sent_cut c.loop-here.invariant.0 c.fill-here.ensures.fills c.new-text.ensures.empty c.in_err-written.field-0.0 c.in_err-written.ensures.adds given)

pub loop-here-smaller : goal.loop-here-smaller
loop-here-smaller g c =
    fewer c.loop-here.invariant.0 c.fill-here.ensures.fills c.new-text.ensures.empty c.loop-here-test.ensures (rw c.new-text.ensures.lent c.loop-here.invariant.1)

pub loop-here-preserved : goal.loop-here-preserved
loop-here-preserved g c =
    let given = rw c.as_bytes.ensures at c.in_ok-written.ensures.gives in
    let sent = sent_more c.loop-here.invariant.0 c.fill-here.ensures.fills c.new-text.ensures.empty c.loop-here-test.ensures (rw c.new-text.ensures.lent c.loop-here.invariant.1) (rw c.new-text.ensures.lent c.loop-here.invariant.2) given in
    (rw (c.in_ok-written.ensures.adds, c.as_bytes.ensures) sent, search rules, search rules)

pub returns-clause-printed : goal.returns-clause-printed
returns-clause-printed g c = (all_sent c.loop-here.invariant.0 c.loop-here-test.ensures).0

pub returns-clause-handed : goal.returns-clause-handed
returns-clause-handed g c = (all_sent c.loop-here.invariant.0 c.loop-here-test.ensures).1
