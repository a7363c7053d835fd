use Rattle.std.proofs.Common.{refl, arith}
use Rattle.network.proofs.Reading.{ready_range}
use Rattle.next_friend.proofs.Sides.{above, place_small, place_inside, place_friends}
use Rattle.next_friend.proofs.side.SideIterator.next.Goals as goal

pub bounds-self-self : goal.bounds-self-self
bounds-self-self g c =
    let s = c.args.self.now in
    let q = c.requires in
    omega (arith, q.4, place_inside s.world.ready (above g.row.ABOVE) s.m s.k s.end q.3 (omega arith) q.0 q.2)

pub overflow_add-self : goal.overflow_add-self
overflow_add-self g c =
    let s = c.args.self.now in
    let q = c.requires in
    let r = ready_range s.world.ready in
    omega (arith, r, q.4, place_small (above g.row.ABOVE) s.m s.k (omega arith) (omega arith), c.step.ensures.1)

pub returns-clause-steps : goal.returns-clause-steps
returns-clause-steps g c =
    let s = c.args.self.now in
    let q = c.requires in
    (refl, omega arith, place_friends s.world.ready (above g.row.ABOVE) s.m s.k s.end s.at q.3 (omega arith) q.0 q.2 q.4 c.marked-friend.ensures, refl, refl, refl, refl)
