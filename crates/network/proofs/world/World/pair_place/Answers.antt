use Rattle.std.proofs.Common.{◌≡◌, min, max, arith, refl}
use Rattle.network.proofs.Reading.{pair_inside}
use Rattle.network.proofs.world.World.pair_place.Goals as goal

pub returns-then-v-u : goal.returns-then-v-u
returns-then-v-u c =
    let w = c.args.self.now in
    let a : min c.args.v c.args.u ≡ c.args.v = omega arith in
    let b : max c.args.v c.args.u ≡ c.args.u = omega arith in
    rw (a, b) (rw c.pairs.ensures.0 (refl, pair_inside w.ready c.args.v c.args.u c.if-v-u.true c.requires.1))

pub returns-else-v-u : goal.returns-else-v-u
returns-else-v-u c =
    let w = c.args.self.now in
    let a : min c.args.v c.args.u ≡ c.args.u = omega arith in
    let b : max c.args.v c.args.u ≡ c.args.v = omega arith in
    rw (a, b) (rw c.pairs-else-v-u.ensures.0 (refl, pair_inside w.ready c.args.u c.args.v (omega (arith, c.requires.2, c.if-v-u.false)) c.requires.0))
