use Rattle.std.proofs.Common.{ℕ, ◌<◌}
use Rattle.validity.specs.Chosen.{ColumnOffered}
use Rattle.validity.proofs.settings_offered.Given as goal

abbrev pub invariant-loop-r : goal.invariant-loop-r
invariant-loop-r l = (k : ℕ) → k < l.r → ColumnOffered l.scheme l.settings k
