use Rattle.std.proofs.Common.{ℕ}
use Rattle.sets.specs.Members.{MembersFrom}
use Rattle.clique.proofs.Holding.{Left}
use Rattle.clique.proofs.has_triangle.Given as goal

abbrev pub invariant-loop-m : goal.invariant-loop-m
invariant-loop-m l = (next : ℕ) × MembersFrom l.set next l.m-iterator × Left l.rows l.set 0 3 next
