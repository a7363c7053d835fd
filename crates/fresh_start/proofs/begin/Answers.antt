use Rattle.std.proofs.Common.{◌∙◌, ◌≡◌, [], ◌∷◌, ap, arith, refl, ◌≤◌, length}
use Rattle.std.proofs.Math.Seq.{length-take-le}
use Rattle.model.specs.Network.{size}
use Rattle.model.specs.SchemeBytes.{scheme_of, scheme_needs, Accepted}
use Rattle.model.proofs.Answering.{ahead}
use Rattle.refusals.proofs.Apart.{number_above}
use Rattle.fresh_start.proofs.Starting.{largest, made_fresh}
use Rattle.fresh_start.proofs.begin.Goals as goal

pub returns-in_default : goal.returns-in_default
returns-in_default c =
    let b = c.args.scheme.now in
    let refused = rw c.unwrap_err.ensures at c.check-checked.ensures in
    (ahead (scheme_needs b) ((15, length c.args.log.now ≤ 16384) ∷ []) _ (number_above c.unwrap_err.result) refused, refl)

pub returns : goal.returns
returns c =
    let b = c.args.scheme.now in
    let checked = rw c.in-Ok.is at c.check-checked.ensures in
    let accepted : Accepted b = checked.0 in
    let sized : c.size-size.result ≡ size (scheme_of b) = c.size-size.ensures.0 ∙ ap (λ x. size (scheme_of x)) checked.1.same in
    let room : c.size-size.result ≤ length c.args.network.now = omega (arith, largest b accepted, sized) in
    let l = length-take-le _ _ room in
    made_fresh b c.args.log.now c.args.network.now accepted c.if-log-gt16384.false sized l c.fresh.ensures (c.fresh.auto.network ∙ l)
