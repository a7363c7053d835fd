-- A set without bits at or above the number of states is 0 when shifted by it.
use Rattle.std.proofs.Common.{◌≡◌, ◌+◌, ◌*◌, arith}
use Rattle.model.proofs.Deciding.{decided, iff}
use Rattle.fit.proofs.Fits.{none_from}
use Rattle.fit.proofs.state_fits.Goals as goal

pub returns-then-k-le2 : goal.returns-then-k-le2
returns-then-k-le2 c =
    let a = c.args in
    let e : c.from.result ≡ a.left + 256 * a.right = omega (arith, c.from.ensures, c.from_le_bytes.ensures) in
    rw e (decided (iff (λ h. (omega arith, h)) (λ h. h.1) (none_from 16 a.states (a.left + 256 * a.right) (omega arith))))
