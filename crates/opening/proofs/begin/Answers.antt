use Rattle.std.proofs.Common.{[], ◌∷◌}
use Rattle.model.specs.Network.{Valid}
use Rattle.model.specs.SchemeBytes.{scheme_of, scheme_needs}
use Rattle.model.proofs.Answering.{ahead}
use Rattle.refusals.proofs.Apart.{number_above}
use Rattle.opening.proofs.begin.Goals as goal

pub returns-in_default : goal.returns-in_default
returns-in_default c =
    let b = c.args.scheme.now in
    let refused = rw c.unwrap_err.ensures at c.check-checked.ensures in
    ahead (scheme_needs b) ((5, Valid (scheme_of b) c.args.network.now) ∷ []) _ (number_above c.unwrap_err.result) refused
