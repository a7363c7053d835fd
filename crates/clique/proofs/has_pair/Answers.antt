use Rattle.std.proofs.Common.{◌+◌, arith, rules}
use Rattle.sets.specs.Sets.{FirstFrom}
use Rattle.clique.proofs.Holding.{left_all, left_past, left_none, left_tried, found, some_member, pair}
use Rattle.clique.proofs.has_pair.Goals as goal

pub returns-in_default : goal.returns-in_default
returns-in_default c =
    let f : FirstFrom c.args.set c.args.from 256 = search rules in
    left_none (omega arith) (left_past f.none left_all)

pub returns-then-not_empty : goal.returns-then-not_empty
returns-then-not_empty c =
    let (f, w) = c.in-Some.ensures in
    found c.args.rows.now c.args.set c.in-Some.m (f.here w) c.meet.ensures (rw c.if-not_empty.true at (some_member c.not_empty.ensures c.args.rows.now 0))

pub returns : goal.returns
returns c =
    let (f, w) = c.in-Some.ensures in
    let m = c.in-Some.m in
    pair
    (left_tried c.args.rows.now c.args.set m (f.here w) c.meet.ensures
    (rw c.if-not_empty.false at (some_member c.not_empty.ensures c.args.rows.now (m + 1)))
    (left_past f.none left_all))
    c.all_friends.ensures
    c.meet-2.ensures
    c.not_empty-2.ensures
