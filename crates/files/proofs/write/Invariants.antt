use Rattle.std.proofs.Common.{◌-◌, ◌≤◌, length, take, ◌+◌}
use Rattle.std.specs.Io.KnownBytes.{Appends}
use Rattle.files.proofs.write.Given as goal

abbrev pub invariant-loop-interrupted : goal.invariant-loop-interrupted
invariant-loop-interrupted g l =
    (l.done ≤ length l.bytes) × (l.interrupted ≤ 1000)
    × Appends (g.W.Write.contents l.initial.file) (g.W.Write.contents l.file) (take l.done l.bytes)

abbrev pub decreases-loop-interrupted : goal.decreases-loop-interrupted
decreases-loop-interrupted g l = (length l.bytes - l.done) + (1000 - l.interrupted)
