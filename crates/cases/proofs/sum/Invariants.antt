use Rattle.std.proofs.Common.{◌<◌}
use Rattle.cases.proofs.Summing.{Halves}
use Rattle.cases.proofs.sum.Given as goal

abbrev pub invariant-loop-byte : goal.invariant-loop-byte
invariant-loop-byte l = (l.low < 65521) × (l.high < 65521) × Halves l.bytes l.byte-index l.low l.high
