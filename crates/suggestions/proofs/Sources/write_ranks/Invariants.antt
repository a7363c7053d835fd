use Rattle.network.specs.Worlds.{world_in}
use Rattle.suggestions.specs.Ranks.{RanksBelow}
use Rattle.suggestions.proofs.Sources.write_ranks.Given as goal

abbrev pub invariant-loop-m : goal.invariant-loop-m
invariant-loop-m l = RanksBelow (world_in l.self.world) l.self.v l.m l.ranks
