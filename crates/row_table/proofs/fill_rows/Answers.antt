use Rattle.std.proofs.Common.{arith, refl, ◌≡◌, ◌+◌, ◌*◌}
use Rattle.network.proofs.Reading.{ready_range}
use Rattle.friend_flags.proofs.Friendships.{all_zero}
use Rattle.row_table.proofs.Filling.{flags_none, columns_none, table_none, eight_more, table_whole}
use Rattle.row_table.proofs.fill_rows.Goals as goal

pub loop-part-init : goal.loop-part-init
loop-part-init c = record { table = table_none _ _ _; flagged = flags_none refl (all_zero 256); told = columns_none _ refl (all_zero 256) }

pub loop-part-preserved : goal.loop-part-preserved
loop-part-preserved c =
    let w = c.args.world.now in
    let i = c.loop-part.invariant in
    let n = ready_range w.ready in
    let m = w.ready.counts.members in
    let next : 8 * (c.loop-part.part + 1) ≡ 8 * c.loop-part.part + 8 = omega arith in
    let (t, below, none) =
    eight_more w.scheme.bytes.now w.network.now (omega (arith, c.min-end.ensures, m)) (omega (arith, c.loop-part-test.true, m)) (omega (arith, n, m)) i.table c.fill.ensures c.put.ensures in
    record { table = rw next t; flagged = rw next below; told = rw next none }

pub returns : goal.returns
returns c =
    let w = c.args.world.now in
    let m = w.ready.counts.members in
    table_whole w.scheme.bytes.now w.network.now {from = 8 * c.loop-part.part} (omega (arith, c.loop-part-test.false, m)) c.loop-part.invariant.table
