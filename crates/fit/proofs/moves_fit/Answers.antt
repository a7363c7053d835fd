-- What the greatest next state says of all.
use Rattle.std.proofs.Common.{◌≡◌, arith}
use Rattle.model.proofs.Deciding.{decided}
use Rattle.fit.proofs.Fits.{moves_say}
use Rattle.fit.proofs.moves_fit.Goals as goal

pub returns : goal.returns
returns c =
    let e : c.from.result ≡ c.greatest.result = omega arith in
    rw e (decided (moves_say c.args.moves.now c.args.states c.greatest.result (λ k. omega (arith, c.type_inv.moves k)) c.greatest.ensures))
