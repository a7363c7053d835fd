use Rattle.std.proofs.Common.{arith, rules, ◌≡◌}
use Rattle.network.proofs.Reading.{ready_range}
use Rattle.sets.proofs.Rows.{row_put}
use Rattle.lower_rows.proofs.Lowering.{row_inside, row_long, row_small, flags_below, lower_more, lower_none}
use Rattle.lower_rows.proofs.fill.Goals as goal

pub loop-m-init : goal.loop-m-init
loop-m-init c = lower_none c.requires.3 c.requires.4

pub slice_bounds-mark-end : goal.slice_bounds-mark-end
slice_bounds-mark-end c = omega (arith, row_inside c.args.world.now.ready {m = c.loop-m.m} (omega arith) c.pairs-at.ensures.0)

pub mark-requires : goal.mark-requires
mark-requires c =
    let w = c.args.world.now in (
      omega (arith, row_long w.ready {m = c.loop-m.m} (omega arith) c.pairs-at.ensures.0, ready_range w.ready, c.loop-m.invariant.flagged.long),
      row_small w.ready (omega arith) c.pairs-at.ensures.0,
    )

pub row-requires : goal.row-requires
row-requires c = flags_below c.args.world.now.ready {m = c.loop-m.m} (omega arith) c.pairs-at.ensures.0 c.loop-m.invariant.flagged c.mark.ensures

pub add-requires : goal.add-requires
add-requires c =
    let f = flags_below c.args.world.now.ready {m = c.loop-m.m} (omega arith) c.pairs-at.ensures.0 c.loop-m.invariant.flagged c.mark.ensures in
    (omega arith, omega (arith, ready_range c.args.world.now.ready), f.none_above)

pub loop-m-preserved : goal.loop-m-preserved
loop-m-preserved c =
    let i = c.loop-m in
    lower_more c.args.world.now.ready {m = i.m} (omega arith) c.pairs-at.ensures.0 i.invariant.flagged c.mark.ensures (omega arith) (omega arith) i.invariant (search rules) c.row.ensures
    (row_put _ i.m _ (omega (arith, i.invariant.long, c.told-rows, ready_range c.args.world.now.ready))) c.add.ensures

pub returns : goal.returns
returns c =
    let e : c.loop-m.m ≡ c.args.end = omega arith in
    rw (← e) c.loop-m.invariant
