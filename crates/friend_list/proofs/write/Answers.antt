use Rattle.std.proofs.Common.{arith}
use Rattle.network.specs.Worlds.{graph_in}
use Rattle.friend_list.proofs.ThoseBelow.{below_none, below_with, below_without}
use Rattle.friend_list.proofs.write.Goals as goal
use Rattle.friend_list.proofs.write.Goals.{then-friends, else-friends}

pub loop-m-init : goal.loop-m-init
loop-m-init c = below_none _ _

pub loop-m-preserved : goal.loop-m-preserved
loop-m-preserved c =
    let f = (graph_in c.args.world.now).friends c.args.u in
    let x = c.loop-m.invariant in
    elim c.if-friends.branch [
      | then-friends w ↦ rw (w.output-is, w.count-is) (below_with f x c.friends.ensures w.if-friends.true (omega (arith, x.few)))
      | else-friends w ↦ rw (w.output-is, w.count-is) (below_without f x c.friends.ensures w.if-friends.false)
    ]
