use Rattle.std.proofs.Common.{arith}
use Rattle.next_friend.proofs.Sides.{apart_above}
use Rattle.next_friend.proofs.side.step.Goals as goal

pub returns-then-this-ne0 : goal.returns-then-this-ne0
returns-then-this-ne0 g c = (apart_above g.row.ABOVE c.args.k (λ z. omega arith), omega arith)
