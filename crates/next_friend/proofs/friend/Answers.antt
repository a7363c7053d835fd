use Rattle.std.proofs.Common.{refl, arith}
use Rattle.network.proofs.Reading.{friends_own}
use Rattle.network.specs.Worlds.{members_in}
use Rattle.next_friend.proofs.Passing.{friend_below, friend_above}
use Rattle.next_friend.proofs.friend.Goals as goal

pub returns-in-Some : goal.returns-in-Some
returns-in-Some c = friend_below (omega arith) c.in-Some.ensures

pub returns : goal.returns
returns c =
    let w = c.args.world.now in
    let own = friends_own w.scheme.bytes.now w.network.now c.args.m c.args.m refl in
    friend_above (members_in w) c.in_default.ensures own c.on_side-3.result (rw c.members-members.ensures.0 at c.on_side-3.ensures)
