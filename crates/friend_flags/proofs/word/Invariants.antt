use Rattle.std.proofs.Common.{◌*◌}
use Rattle.friend_flags.specs.Flags.{Packed}
use Rattle.friend_flags.proofs.word.Given as goal

abbrev pub invariant-loop-m : goal.invariant-loop-m
invariant-loop-m l = Packed l.flags l.at (8 * l.m) l.bits
