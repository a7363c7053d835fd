use Rattle.std.proofs.Common.{arith, rules, ◌≡◌, ◌+◌, ◌-◌}
use Rattle.rows.proofs.RowBits.{first_friend, first_stranger, first_all}
use Rattle.rows.proofs.greater.Goals as goal

pub returns-then-first-end : goal.returns-then-first-end
returns-then-first-end c =
    let w = c.args.world.now in
    first_all w.scheme.bytes.now w.network.now c.args.u c.args.from c.args.start c.args.below c.requires.2 (λ k a b. omega (arith, w.ready.counts.members)) c.requires.3

pub loop-m-init : goal.loop-m-init
loop-m-init c =
    let a = c.args in
    let k : c.into_iter-m-iterator.result.k ≡ a.from + a.start = rw c.into_iter-m-iterator.ensures.into_iter_gives c.new-m-items.ensures.2 in
    let z : a.from + a.start - a.from ≡ a.start = omega arith in
    record { can_next = search rules; is_finite = search rules; same = search rules; onward = omega (arith, k); told = rw (k, z) c.requires.3 }

pub loop-m-preserved-then-friend : goal.loop-m-preserved-then-friend
loop-m-preserved-then-friend c =
    let i = c.loop-m.invariant in
    let s = rw (i.same.0, i.same.1, i.same.2) at c.in-Some.ensures.steps in
    record {
      can_next = search rules;
      is_finite = search rules;
      same = (s.3, s.4, s.6);
      onward = omega (arith, i.onward, s.0, s.5);
      told = rw s.5 (first_friend (omega (arith, i.onward, s.0)) s.2 (rw s.0 at i.told) (omega arith) c.if-friend.true);
    }

pub loop-m-preserved : goal.loop-m-preserved
loop-m-preserved c =
    let i = c.loop-m.invariant in
    let s = rw (i.same.0, i.same.1, i.same.2) at c.in-Some.ensures.steps in
    record {
      can_next = search rules;
      is_finite = search rules;
      same = (s.3, s.4, s.6);
      onward = omega (arith, i.onward, s.0, s.5);
      told = rw s.5 (first_stranger (omega (arith, i.onward, s.0)) s.2 (rw s.0 at i.told) c.if-friend.false);
    }

pub returns : goal.returns
returns c =
    let w = c.args.world.now in
    let i = c.loop-m.invariant in
    let k = c.loop-m.m-iterator.k in
    first_all w.scheme.bytes.now w.network.now c.args.u c.args.from (k - c.args.from) c.loop-m.bits (omega (arith, i.same.2, i.onward, c.in-None.ensures.steps))
    (λ j a b. omega (arith, w.ready.counts.members, i.same.2, i.onward, c.in-None.ensures.steps)) i.told
