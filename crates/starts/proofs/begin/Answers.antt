use Rattle.std.proofs.Common.{arith}
use Rattle.model.specs.Network.{held}
use Rattle.model.specs.SchemeBytes.{scheme_of}
use Rattle.model.proofs.Symmetry.{friends_comm}
use Rattle.starts.proofs.StartsMarked.{begun}
use Rattle.starts.proofs.begin.Goals as goal

pub returns : goal.returns
returns c =
    let w = c.args.world.now in
    let b = scheme_of w.scheme.bytes.now in
    let e = w.ready.counts.members in
    begun c.spread.ensures c.requires.1 (friends_comm b (held b w.network.now) c.args.v) (omega (arith, e, w.scheme.counts.few_members)) (omega (arith, e, c.requires.0))
