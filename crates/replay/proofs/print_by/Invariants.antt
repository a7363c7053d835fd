use Rattle.std.proofs.Common.{◌≤◌, length}
use Rattle.fresh_start.specs.Stands.{state_of}
use Rattle.replay.proofs.Ranking.{rank}
use Rattle.replay.proofs.Printing.{Sent}
use Rattle.replay.proofs.print_by.Given as goal

abbrev pub invariant-loop-here : goal.invariant-loop-here
invariant-loop-here g l =
    Sent (g.W.Write.contents l.initial.out) (g.W.Write.contents l.out) l.scheme l.log l.network l.here l.written
    × (1548 ≤ length l.buffer) × (length l.buffer ≤ 65536)

abbrev pub decreases-loop-here : goal.decreases-loop-here
decreases-loop-here g l = rank l.scheme l.log (state_of l.here l.network)
