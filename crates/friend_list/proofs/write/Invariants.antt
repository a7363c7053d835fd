use Rattle.network.specs.Worlds.{graph_in}
use Rattle.friend_list.proofs.ThoseBelow.{ThoseBelow}
use Rattle.friend_list.proofs.write.Given as goal

abbrev pub invariant-loop-m : goal.invariant-loop-m
invariant-loop-m l = ThoseBelow ((graph_in l.world).friends l.u) l.initial.output l.m l.count l.output
