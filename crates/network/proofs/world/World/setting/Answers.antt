use Rattle.network.proofs.Reading.{setting_held}
use Rattle.network.proofs.world.World.setting.Goals as goal

pub returns : goal.returns
returns c = rw (c.from.ensures, c.setting_place.ensures.0) (setting_held c.args.self.now.ready c.args.m c.args.r c.requires.0 c.requires.1)
