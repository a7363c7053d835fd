use Rattle.std.proofs.Common.{arith}
use Rattle.model.proofs.Sets.{Added, added, left_out}
use Rattle.policies.proofs.Admitting.{reads_one, lower_all, admitted_more}
use Rattle.policies.proofs.judged.Goals as goal
use Rattle.policies.proofs.judged.Goals.{then-admits, else-admits}

pub admits-requires : goal.admits-requires
admits-requires c =
    let a = c.args in
    let i = c.loop-p in (
      record {
        p = i.p;
        at = c.policy-rule.ensures;
        reads = reads_one a.world.now.scheme.bytes.now a.world.now.network.now a.u a.v a.from a.count a.relation c.requires.0 i.p (omega arith) (omega arith);
        lower = λ h. lower_all (c.requires.1 i.p (omega arith) (omega arith) h) i.invariant;
      },
      c.requires.2,
      c.requires.3,
    )

pub loop-p-preserved : goal.loop-p-preserved
loop-p-preserved c =
    let l = c.loop-p in
    let d : Added l.set l.p c.admits.result c.if-admits.set =
    elim c.if-admits.branch [
      | then-admits w ↦ rw (w.if-admits.true, w.set-is) (added 32 l.set l.p (omega arith) l.invariant.none_above)
      | else-admits w ↦ rw (w.if-admits.false, w.set-is) (left_out l.set l.p l.invariant.none_above)
    ] in
    admitted_more (omega arith) l.invariant d (rw c.policy-rule.ensures.policy c.admits.ensures)
