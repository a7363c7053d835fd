use Rattle.std.proofs.Common.{◌+◌, arith}
use Rattle.sets.proofs.Iterating.{first_left, none_left}
use Rattle.nearby.proofs.Passing.{passed_to}
use Rattle.nearby.proofs.Nearby.{around_next, all_friends}
use Rattle.nearby.proofs.friends_of.Goals as goal

pub loop-m-preserved : goal.loop-m-preserved
loop-m-preserved c =
    let (next, at, p) = c.loop-m.invariant in
    let (first, after) = first_left at c.in-Some.ensures.steps in
    (c.in-Some.m + 1, after, around_next (omega arith) p first c.friend_row.ensures c.join-more.ensures)

pub returns-in-None : goal.returns-in-None
returns-in-None c =
    let (next, at, p) = c.loop-m.invariant in
    all_friends (omega arith) (passed_to (none_left at c.in-None.ensures.steps) p) (omega arith)

pub returns-then-m-members : goal.returns-then-m-members
returns-then-m-members c =
    let (next, at, p) = c.loop-m.invariant in
    all_friends (omega arith) (passed_to (first_left at c.in-Some.ensures.steps).0 p) (omega arith)
