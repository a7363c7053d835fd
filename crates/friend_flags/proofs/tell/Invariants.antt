use Rattle.friend_flags.specs.Flags.{Told}
use Rattle.friend_flags.proofs.tell.Given as goal

abbrev pub invariant-loop-k : goal.invariant-loop-k
invariant-loop-k g l = Told (goal.F-post g l.test) l.states l.k l.fn.flags l.flags
