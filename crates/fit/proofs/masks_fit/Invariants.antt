-- The masks of the chunks before this one are of the policies.
use Rattle.std.proofs.Common.{ℕ, ◌*◌, ◌<◌}
use Rattle.model.specs.Bytes.{four}
use Rattle.model.specs.SchemeBytes.{MaskFits}
use Rattle.fit.proofs.masks_fit.Given as goal

abbrev pub invariant-loop-bytes : goal.invariant-loop-bytes
invariant-loop-bytes l = (r : ℕ) → r < l.bytes-index → MaskFits l.policies (four l.masks (r * 4))
