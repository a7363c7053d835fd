use Rattle.std.proofs.Common.{sym, arith, ◌∙◌}
use Rattle.page.proofs.Entering.{filled_in_order, filled_next, filled_stays}
use Rattle.page.proofs.fill_places.Goals as goal
use Rattle.page.proofs.fill_places.Goals.{then-rank-least, else-rank-least}

pub last_rank-least-requires-clause-in_order : goal.last_rank-least-requires-clause-in_order
last_rank-least-requires-clause-in_order c =
    let i = c.loop-m.invariant in
    rw (c.enter.ensures.same_ranks, i.same_ranks) (filled_in_order (filled_next i.filled (sym i.filled.long) (omega arith) (rw i.same_ranks at c.enter.ensures.entered)) (omega arith))

pub loop-m-preserved : goal.loop-m-preserved
loop-m-preserved c =
    let i = c.loop-m.invariant in
    let l = sym i.filled.long in
    elim c.if-rank-least.branch [
      | then-rank-least w ↦
          let same = w.enter.ensures.same_ranks ∙ i.same_ranks in
          rw (w.page-is, w.least-is) (record {
            filled = filled_next i.filled l (omega arith) (rw i.same_ranks at w.enter.ensures.entered);
            last = rw same at w.last_rank-least.ensures;
            same_places = w.enter.ensures.same_places ∙ i.same_places;
            same_ranks = same;
          })
      | else-rank-least w ↦ rw (w.page-is, w.least-is) (record { filled = filled_stays i.filled l i.last w.if-rank-least.false; last = i.last; same_places = i.same_places; same_ranks = i.same_ranks })
    ]
