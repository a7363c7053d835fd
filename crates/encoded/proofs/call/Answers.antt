use Rattle.std.proofs.Common.{◌+◌, ◌-◌, ◌*◌, arith}
use Rattle.encoded.proofs.Decoding.{turned}
use Rattle.encoded.proofs.call.Goals as goal

pub returns : goal.returns
returns c =
    let a = c.args in
    let s = c.call in
    turned a.scheme.now a.network.now a.encoded.now a.n a.lists.now s.result s.new.network s.new.output (256 * a.n + c.min-lent.result - 256 * a.n)
    c.decode-asked.result c.decode-asked.ensures c.requires.1 (omega (arith, c.min-lent.ensures, c.from.ensures)) s.auto.output s.ensures
