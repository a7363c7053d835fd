use Rattle.std.proofs.Common.{◌≡◌, ◌-◌, ◌≤◌}
use Rattle.network.specs.Worlds.{graph_in}
use Rattle.rows.specs.Words.{FirstBits}
use Rattle.rows.proofs.greater.Given as goal

abbrev pub invariant-loop-m : goal.invariant-loop-m
invariant-loop-m l = record {
  can_next : goal.iterator-loop-m.can_next l.m-iterator;
  is_finite : goal.iterator-loop-m.is_finite l.m-iterator;
  same : (l.m-iterator.world ≡ l.world) × (l.m-iterator.m ≡ l.u) × (l.m-iterator.end ≡ l.end);
  onward : l.from ≤ l.m-iterator.k;
  told : FirstBits (graph_in l.world) l.u l.from (l.m-iterator.k - l.from) l.bits;
}
