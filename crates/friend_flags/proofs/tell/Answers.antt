use Rattle.std.proofs.Common.{◌≡◌, length, arith, ◌∙◌}
use Rattle.friend_flags.proofs.Telling.{told_none, told_more, flag_is}
use Rattle.friend_flags.proofs.tell.Goals as goal

pub loop-k-init : goal.loop-k-init
loop-k-init g c = told_none _ _ _

pub loop-k-preserved : goal.loop-k-preserved
loop-k-preserved g c = told_more _ _ c.loop-k.k _ c.test.result _ _ (omega arith) c.test.ensures (c.from.ensures ∙ flag_is c.test.result) c.loop-k.invariant

pub returns : goal.returns
returns g c =
    let e : c.loop-k.k ≡ length c.args.states.now = omega arith in
    rw (← e) c.loop-k.invariant
