use Rattle.std.proofs.Common.{ℕ}
use Rattle.sets.specs.Members.{MembersFrom}
use Rattle.clique.specs.Mutual.{FriendsOf}
use Rattle.clique.proofs.all_friends.Given as goal

abbrev pub invariant-loop-m : goal.invariant-loop-m
invariant-loop-m l = (next : ℕ) × MembersFrom l.fn.set next l.m-iterator × FriendsOf l.rows l.fn.set l.from next l.all
