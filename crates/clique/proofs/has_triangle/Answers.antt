use Rattle.std.proofs.Common.{◌+◌, arith}
use Rattle.sets.proofs.Iterating.{first_left, none_left}
use Rattle.clique.proofs.Holding.{left_past, left_none, left_tried, found}
use Rattle.clique.proofs.has_triangle.Goals as goal

pub returns-then-has_pair : goal.returns-then-has_pair
returns-then-has_pair c =
    let (next, at, left) = c.loop-m.invariant in
    let n = c.in-Some.ensures.steps in
    found c.args.rows.now c.args.set c.in-Some.m ((first_left at n).0.here n.small) c.meet.ensures (rw c.if-has_pair.true at c.has_pair.ensures)

pub loop-m-preserved : goal.loop-m-preserved
loop-m-preserved c =
    let (next, at, left) = c.loop-m.invariant in
    let n = c.in-Some.ensures.steps in
    let (first, after) = first_left at n in
    (c.in-Some.m + 1, after, left_tried c.args.rows.now c.args.set c.in-Some.m (first.here n.small) c.meet.ensures (rw c.if-has_pair.false at c.has_pair.ensures) (left_past first.none left))

pub returns : goal.returns
returns c =
    let (next, at, left) = c.loop-m.invariant in
    left_none (omega arith) (left_past (none_left at c.in-None.ensures.steps).none left)
