use Rattle.std.proofs.Common.{◌≡◌, ℕ, ◌<◌}
use Rattle.model.specs.Bytes.{byte}
use Rattle.model.specs.Scheme.{lowest}
use Rattle.tables.specs.Schemes.{scheme_in}
use Rattle.fresh.proofs.fill_member.Given as goal

abbrev pub invariant-loop-r : goal.invariant-loop-r
invariant-loop-r l = (k : ℕ) → k < l.r → byte l.settings k ≡ lowest ((scheme_in l.scheme).mask k)
