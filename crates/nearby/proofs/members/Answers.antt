use Rattle.std.proofs.Common.{refl, arith}
use Rattle.model.specs.Network.{held}
use Rattle.model.specs.SchemeBytes.{scheme_of}
use Rattle.model.proofs.Computing.{every}
use Rattle.model.proofs.Deciding.{every_holds}
use Rattle.model.proofs.Symmetry.{friends_comm}
use Rattle.nearby.proofs.Nearby.{near_everybody, near_friends}
use Rattle.nearby.proofs.members.Goals as goal

pub returns-then-shared-members : goal.returns-then-shared-members
unfolding every
returns-then-shared-members c = λ v own. near_everybody (omega arith) (every_holds _ 256 refl) v

pub returns : goal.returns
returns c =
    let w = c.args.world.now in
    near_friends (omega arith) (friends_comm (scheme_of w.scheme.bytes.now) (held (scheme_of w.scheme.bytes.now) w.network.now)) c.requires c.meet.ensures c.friends_of.ensures
