-- A mask without bits at or above the number of policies is 0 when shifted by it.
use Rattle.std.proofs.Common.{◌≡◌, arith}
use Rattle.model.proofs.Deciding.{decided, iff}
use Rattle.fit.proofs.Fits.{none_from}
use Rattle.fit.proofs.mask_fits.Goals as goal

pub returns-then-mask-ne0 : goal.returns-then-mask-ne0
returns-then-mask-ne0 c =
    let a = c.args in
    let e : c.from.result ≡ a.mask = omega arith in
    rw e (decided (iff (λ h. (omega arith, h)) (λ h. h.1) (none_from 32 a.policies a.mask (omega arith))))
