use Rattle.std.proofs.Common.{arith, refl}
use Rattle.log_records.proofs.PlacesMoved.{inside}
use Rattle.log_records.proofs.read.Goals as goal

pub overflow_add-result : goal.overflow_add-result
overflow_add-result c = omega (arith, inside c.args.log.now c.args.place _ (rw c.in-Some-Ok.field-0-is at c.in-Some-Ok.ensures), c.type_inv.log)

pub two-requires : goal.two-requires
two-requires c = omega (arith, inside c.args.log.now c.args.place _ (rw c.in-Some-Ok.field-0-is at c.in-Some-Ok.ensures))

pub overflow_add-result-in-Some-Ok : goal.overflow_add-result-in-Some-Ok
overflow_add-result-in-Some-Ok c =
    omega (arith, inside c.args.log.now c.args.place _ (rw c.in-Some-Ok.field-0-is at c.in-Some-Ok.ensures), c.two.ensures.0, c.type_inv.log)

pub returns-in-Some-Ok : goal.returns-in-Some-Ok
returns-in-Some-Ok c = record { says = rw c.in-Some-Ok.field-0-is at c.in-Some-Ok.ensures; moves = λ lent. rw c.two.ensures.0 refl }
