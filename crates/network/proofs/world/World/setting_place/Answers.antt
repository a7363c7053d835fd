use Rattle.std.proofs.Common.{refl}
use Rattle.network.proofs.Reading.{setting_at, setting_inside}
use Rattle.network.proofs.world.World.setting_place.Goals as goal

pub returns : goal.returns
returns c =
    let w = c.args.self.now in
    rw (c.resources.ensures.0, c.pairs.ensures.0, c.members.ensures.0, setting_at w.ready)
    (refl, setting_inside w.ready c.args.m c.args.r c.requires.0 c.requires.1)
