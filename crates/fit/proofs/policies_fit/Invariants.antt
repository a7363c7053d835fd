-- The policies below p are what their kinds allow.
use Rattle.std.proofs.Common.{ℕ, ◌+◌, ◌*◌, ◌<◌}
use Rattle.model.specs.Bytes.{byte}
use Rattle.model.specs.SchemeBytes.{PolicyFits}
use Rattle.fit.proofs.policies_fit.Given as goal

abbrev pub invariant-loop-p : goal.invariant-loop-p
invariant-loop-p l =
    (q : ℕ) → q < l.p → PolicyFits l.states q (byte l.policies (q * 4)) (byte l.policies (q * 4 + 1)) (byte l.policies (q * 4 + 2)) (byte l.policies (q * 4 + 3))
