-- What the greatest flag says of all.
use Rattle.std.proofs.Common.{arith}
use Rattle.model.proofs.Deciding.{decided}
use Rattle.fit.proofs.Fits.{flags_say}
use Rattle.fit.proofs.flags_fit.Goals as goal

pub returns : goal.returns
returns c = decided (flags_say c.args.flags.now c.greatest.result (λ k. omega (arith, c.type_inv.flags k)) c.greatest.ensures)
