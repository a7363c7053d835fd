use Rattle.std.proofs.Common.{arith}
use Rattle.prepared.proofs.Reaching.{farthest_within, farthest_other}
use Rattle.prepared.proofs.farthest.Goals as goal
use Rattle.prepared.proofs.farthest.Goals.{in-Within, in_default}

pub loop-p-preserved : goal.loop-p-preserved
loop-p-preserved c =
    elim c.match-policy.branch [
      | in-Within w ↦ rw w.most-is (farthest_within c.loop-p.invariant w.in-Within.ensures (omega arith) (omega arith))
      | in_default w ↦ rw w.most-is (farthest_other c.loop-p.invariant c.policy.ensures w.in_default.not-Within)
    ]
