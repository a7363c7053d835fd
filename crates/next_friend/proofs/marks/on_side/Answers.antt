use Rattle.std.proofs.Common.{◌∙◌, arith, rules}
use Rattle.model.proofs.Symmetry.{friends_comm}
use Rattle.network.proofs.Reading.{ready_range}
use Rattle.network.specs.Worlds.{scheme_of_world, held_in}
use Rattle.next_friend.proofs.Spreading.{spread_pass, spread_told}
use Rattle.next_friend.proofs.marks.on_side.Goals as goal

pub loop-k-preserved-then-marks-k-eq0 : goal.loop-k-preserved-then-marks-k-eq0
loop-k-preserved-then-marks-k-eq0 g c =
    let i = c.loop-k.invariant in
    let s = rw (i.same.0, i.same.1, i.same.2) at c.in-Some.ensures.steps in
    let w = c.args.world.now in
    let r = w.ready in
    record {
      can_next = search rules;
      is_finite = search rules;
      same = (s.3, s.4, s.6);
      onward = omega (arith, i.onward, s.0, s.5);
      marked = rw s.5
          (spread_told (rw s.0 at i.marked) c.in-Some.friend c.for_friend.result (omega (arith, i.onward, s.0)) (omega (arith, r.counts.members)) (omega (arith, r.counts.members)) (omega (arith, ready_range r, r.counts.members)) c.requires.1 c.if-marks-k-eq0.true (s.2 ∙ friends_comm (scheme_of_world w) (held_in w) c.args.m c.in-Some.k) c.for_friend.ensures);
    }

pub loop-k-preserved : goal.loop-k-preserved
loop-k-preserved g c =
    let i = c.loop-k.invariant in
    let s = rw (i.same.0, i.same.1, i.same.2) at c.in-Some.ensures.steps in
    record {
      can_next = search rules;
      is_finite = search rules;
      same = (s.3, s.4, s.6);
      onward = omega (arith, i.onward, s.0, s.5);
      marked = rw s.5 (spread_pass (rw s.0 at i.marked) c.if-marks-k-eq0.false);
    }
