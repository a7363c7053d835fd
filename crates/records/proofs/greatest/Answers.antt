-- The loop keeps the greatest of the bytes that it has seen, and has seen all at the end.
use Rattle.std.proofs.Common.{◌≡◌, length, arith}
use Rattle.records.proofs.Most.{raised, most_more}
use Rattle.records.proofs.greatest.Goals as goal

pub loop-b-preserved : goal.loop-b-preserved
loop-b-preserved c =
    let l = c.loop-b in
    rw c.max-most.ensures (most_more (raised c.args.s.now c.args.raise) l.b-index l.most l.invariant)

pub returns : goal.returns
returns c = let e : c.loop-b.b-index ≡ length c.args.s.now = omega arith in rw e at c.loop-b.invariant
