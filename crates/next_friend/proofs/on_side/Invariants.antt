use Rattle.std.proofs.Common.{◌≡◌}
use Rattle.network.specs.Worlds.{graph_in}
use Rattle.next_friend.proofs.Passing.{Passed}
use Rattle.next_friend.proofs.on_side.Given as goal

abbrev pub invariant-loop-k : goal.invariant-loop-k
invariant-loop-k g l = record {
  can_next : (goal.iterator-loop-k g).can_next l.k-iterator;
  is_finite : (goal.iterator-loop-k g).is_finite l.k-iterator;
  same : (l.k-iterator.world ≡ l.world) × (l.k-iterator.m ≡ l.m) × (l.k-iterator.end ≡ l.end);
  passed : Passed (graph_in l.world) l.m l.seen l.from l.k-iterator.k;
}
