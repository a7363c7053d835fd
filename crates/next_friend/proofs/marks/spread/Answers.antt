use Rattle.std.proofs.Common.{refl}
use Rattle.network.proofs.Reading.{friends_own}
use Rattle.next_friend.proofs.Spreading.{spread_onward, spread_around}
use Rattle.next_friend.proofs.marks.spread.Goals as goal

pub returns-then-m-from : goal.returns-then-m-from
returns-then-m-from c =
    let p = c.requires in
    spread_onward p.1 c.args.world.now.ready.counts.members p.2 (rw c.members-members.ensures.0 at c.on_side.ensures)

pub returns : goal.returns
returns c =
    let p = c.requires in
    let w = c.args.world.now in
    let o = friends_own w.scheme.bytes.now w.network.now c.args.m c.args.m refl in
    spread_around p.1 w.ready.counts.members p.2 o c.on_side-2.ensures (rw c.members-members.ensures.0 at c.on_side-3.ensures)
