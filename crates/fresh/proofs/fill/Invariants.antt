use Rattle.std.proofs.Common.{◌+◌}
use Rattle.tables.specs.Schemes.{scheme_in}
use Rattle.fresh.specs.Fill.{AllFilled}
use Rattle.fresh.proofs.fill.Given as goal

abbrev pub invariant-loop-m : goal.invariant-loop-m
invariant-loop-m l = AllFilled (scheme_in l.scheme) l.initial.network l.from l.m (2 + l.scheme.counts.primitives + l.scheme.counts.items) l.network
