use Rattle.std.proofs.Common.{◌*◌}
use Rattle.columns.specs.Columns.{FlagsAdded}
use Rattle.columns.proofs.add.Given as goal

abbrev pub invariant-loop-part : goal.invariant-loop-part
invariant-loop-part l = FlagsAdded l.flags l.t 0 (64 * l.part) l.fn.columns l.columns
