use Rattle.std.proofs.Common.{◌≡◌, [], ◌∷◌, length, arith, refl}
use Rattle.model.specs.Network.{size}
use Rattle.model.specs.SchemeBytes.{scheme_of, scheme_needs}
use Rattle.model.proofs.Answering.{ahead}
use Rattle.refusals.proofs.Apart.{number_above}
use Rattle.fresh.proofs.Filling.{cleared, laid, fresh_made}
use Rattle.fresh.proofs.fresh.Goals as goal

pub returns-in_default : goal.returns-in_default
returns-in_default c =
    let b = c.args.scheme.now in
    let above = number_above c.unwrap_err.result in
    let refused = rw c.unwrap_err.ensures at c.check-checked.ensures in
    record {
      answered = ahead (scheme_needs b) ((5, length c.args.network.now ≡ size (scheme_of b)) ∷ []) _ above refused;
      made = λ e. absurd (omega (arith, above, e));
      kept = λ n. refl;
    }

pub returns : goal.returns
returns c =
    let n = c.args.network.now in
    let (a, k) = rw c.in-Ok.is at c.check-checked.ensures in
    let held : length n ≡ size (scheme_of c.in-Ok.scheme.bytes.now) = omega (arith, c.size.ensures.0) in
    let sized : length n ≡ size (scheme_of c.args.scheme.now) = rw k.same at held in
    let z = cleared n c.fill.new.self c.pairs-pairs.result (c.fill.ensures.after (λ y e. e)) (omega (arith, c.size.ensures.1)) in
    fresh_made c.args.scheme.now n a sized (laid c.args.scheme.now n _ k.counts c.pairs-pairs.ensures.0 sized z.0 z.1 (rw k.same at c.fill-2.ensures))
