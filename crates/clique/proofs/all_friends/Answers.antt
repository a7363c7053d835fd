use Rattle.sets.proofs.Iterating.{first_left, none_left}
use Rattle.std.proofs.Common.{◌+◌, arith}
use Rattle.clique.proofs.Joining.{friends_of_none, friends_past, friends_on}
use Rattle.clique.proofs.all_friends.Goals as goal

pub loop-m-init : goal.loop-m-init
loop-m-init c = (c.args.from, rw c.into_iter-m-iterator.ensures.into_iter_gives c.members_from-m-items.ensures, friends_of_none (omega arith))

pub loop-m-preserved : goal.loop-m-preserved
loop-m-preserved c =
    let (next, at, f) = c.loop-m.invariant in
    let n = c.in-Some.ensures.steps in
    let (first, after) = first_left at n in
    (c.in-Some.m + 1, after, friends_on f first n.small c.join-more.ensures)

pub returns : goal.returns
returns c =
    let (next, at, f) = c.loop-m.invariant in
    friends_past f (none_left at c.in-None.ensures.steps)
