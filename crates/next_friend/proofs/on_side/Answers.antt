use Rattle.std.proofs.Common.{◌∙◌, arith, rules}
use Rattle.next_friend.proofs.Passing.{pass_seen, pass_stranger, pass_stop, pass_end}
use Rattle.next_friend.proofs.on_side.Goals as goal
use Rattle.next_friend.proofs.on_side.Goals.{else-friend-via-then-friend+else-seen-k-eq0, else-friend-via-else-friend}

pub returns-then-seen-k-eq0 : goal.returns-then-seen-k-eq0
returns-then-seen-k-eq0 g c =
    let i = c.loop-k.invariant in
    let s = rw (i.same.0, i.same.1, i.same.2) at c.in-Some.ensures.steps in
    (pass_stop (rw s.0 at i.passed) (omega arith) s.2 c.if-friend.true c.if-seen-k-eq0.true, s.1)

pub loop-k-preserved : goal.loop-k-preserved
loop-k-preserved g c =
    let i = c.loop-k.invariant in
    let s = rw (i.same.0, i.same.1, i.same.2) at c.in-Some.ensures.steps in
    let x = rw s.0 at i.passed in
    record {
      can_next = search rules;
      is_finite = search rules;
      same = (s.3, s.4, s.6);
      passed = rw s.5 (elim c.else-friend.branch [
        | else-friend-via-then-friend+else-seen-k-eq0 w ↦ pass_seen x w.if-seen-k-eq0.false
        | else-friend-via-else-friend w ↦ pass_stranger x s.2 w.if-friend.false
      ]);
    }

pub returns : goal.returns
returns g c = pass_end c.loop-k.invariant.passed (c.in-None.ensures.steps ∙ c.loop-k.invariant.same.2)
