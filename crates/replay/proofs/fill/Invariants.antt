use Rattle.std.proofs.Common.{ℕ, ◌≡◌}
use Rattle.fresh_start.specs.Stands.{state_of, moment}
use Rattle.replay.specs.Fills.{Steps}
use Rattle.replay.proofs.Ranking.{rank}
use Rattle.replay.proofs.fill.Given as goal

abbrev pub invariant-loop-network : goal.invariant-loop-network
invariant-loop-network l =
    (count : ℕ)
    × Steps l.scheme l.log count (moment l.initial.here l.initial.network l.initial.text) (moment l.here l.network l.text)
    × (l.text.buffer.ghost_name ≡ l.initial.text.buffer.ghost_name)

abbrev pub decreases-loop-network : goal.decreases-loop-network
decreases-loop-network l = rank l.scheme l.log (state_of l.here l.network)
