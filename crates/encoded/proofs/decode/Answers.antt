use Rattle.std.proofs.Common.{sym, arith}
use Rattle.encoded.proofs.Decoding.{decoded_view}
use Rattle.encoded.proofs.decode.Goals as goal

pub returns-in_default : goal.returns-in_default
returns-in_default c =
    rw (c.from-x.ensures, c.from-y.ensures, c.from-z.ensures)
    (sym (decoded_view c.args.first c.args.second c.args.third c.args.kind (λ e. omega arith) (λ e. omega arith) (λ e. omega arith) (λ e. omega arith)))
