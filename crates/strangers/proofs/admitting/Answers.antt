-- One more policy's sides, found from those below it.
use Rattle.std.proofs.Common.{arith, length-set}
use Rattle.strangers.proofs.Strangers.{sides_more}
use Rattle.strangers.proofs.admitting.Goals as goal

pub loop-q-preserved : goal.loop-q-preserved
loop-q-preserved c =
    let l = c.loop-q in
    record {
      long = simp length-set l.invariant.long;
      below =
          sides_more c.args.scheme.now.bytes.now l.sides l.q c.rule_sides.result (omega (arith, l.invariant.long)) l.invariant.below
          (rw c.policy.ensures.policy c.rule_sides.ensures);
    }
