use Rattle.std.proofs.Common.{arith}
use Rattle.columns.proofs.Adding.{added_rest}
use Rattle.columns.proofs.add.Goals as goal

pub returns : goal.returns
returns c = added_rest (λ k h. c.requires.2 k (omega arith)) (omega arith) c.loop-part.invariant
