use Rattle.relation.proofs.Relating.{sized_by}
use Rattle.relation.proofs.clique_of_friends.Goals as goal

pub returns : goal.returns
returns c =
    let w = c.args.world.now in
    sized_by {b = w.scheme.bytes.now} {net = w.network.now} w.ready c.fill_rows.ensures.each c.largest.ensures c.requires.0 c.requires.1
