-- The table has the sides of the policies below q.
use Rattle.std.proofs.Common.{◌≡◌, length}
use Rattle.strangers.specs.Strangers.{SidesBelow}
use Rattle.strangers.proofs.admitting.Given as goal

abbrev pub invariant-loop-q : goal.invariant-loop-q
invariant-loop-q l = record { long : length l.sides ≡ 32; below : SidesBelow l.scheme.bytes.now l.sides l.q }
