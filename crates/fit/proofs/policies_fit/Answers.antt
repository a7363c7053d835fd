-- The four bytes of a chunk are those of the policy.
use Rattle.std.proofs.Common.{arith}
use borrow.Author.Count.{below_more}
use Rattle.fit.proofs.Fits.{chunk_is}
use Rattle.fit.proofs.policies_fit.Goals as goal

pub returns-then-not-policy_fits : goal.returns-then-not-policy_fits
returns-then-not-policy_fits c =
    let l = c.loop-p in
    λ f. c.if-not-policy_fits.ensures (rw (chunk_is c.args.policies.now l.p c.as_chunks.ensures.front (omega arith)) (f l.p (omega arith)))

pub loop-p-preserved : goal.loop-p-preserved
loop-p-preserved c =
    let l = c.loop-p in
    below_more _ l.p l.invariant (rw (chunk_is c.args.policies.now l.p c.as_chunks.ensures.front (omega arith)) at c.if-not-policy_fits.ensures)
