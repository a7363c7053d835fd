use Rattle.network.proofs.Reading.{state_held}
use Rattle.network.proofs.world.World.state.Goals as goal

pub returns : goal.returns
returns c = rw c.pair_place.ensures.0 (state_held c.args.self.now.ready c.args.u c.args.v c.requires.0 c.requires.1 c.if-u-v.false)
