use Rattle.std.proofs.Common.{◌-◌, ◌≤◌, length, take, ◌+◌}
use Rattle.std.specs.Io.KnownBytes.{Consumes}
use Rattle.files.proofs.read_all.Given as goal

abbrev pub invariant-loop-interrupted : goal.invariant-loop-interrupted
invariant-loop-interrupted g l =
    (l.done ≤ length l.buffer) × (l.interrupted ≤ 1000)
    × Consumes (g.R.Read.remaining l.initial.file) (g.R.Read.remaining l.file) (take l.done l.buffer)

abbrev pub decreases-loop-interrupted : goal.decreases-loop-interrupted
decreases-loop-interrupted g l = (length l.buffer - l.done) + (1000 - l.interrupted)
