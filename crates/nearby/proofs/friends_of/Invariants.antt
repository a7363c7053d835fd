use Rattle.std.proofs.Common.{ℕ}
use Rattle.network.specs.Worlds.{graph_in}
use Rattle.sets.specs.Members.{MembersFrom}
use Rattle.nearby.proofs.Passing.{Passed}
use Rattle.nearby.proofs.Nearby.{Around}
use Rattle.nearby.proofs.friends_of.Given as goal

abbrev pub invariant-loop-m : goal.invariant-loop-m
invariant-loop-m l = (next : ℕ) × MembersFrom l.fn.some next l.m-iterator × Passed l.fn.some next (Around (graph_in l.world) l.all)
