use Rattle.std.proofs.Common.{arith, refl, subst}
use Rattle.std.proofs.lemmas.List.{get_or-replicate}
use Rattle.prepared.specs.Asking.{Asking, world_asked}
use Rattle.starts.specs.Starts.{Begun}
use Rattle.finding.proofs.ExactlyFound.{searched_begun, everyone_found}
use Rattle.finding.proofs.everyone.Goals as goal

pub begin-requires : goal.begin-requires
begin-requires c = (c.accessor.invariant.0, λ k b. get_or-replicate 256 k 0 0 b)

pub walk-requires : goal.walk-requires
walk-requires c =
    let x = subst (λ (a : Asking). Begun (world_asked a) a.v c.begin.new.seen) c.accessor.view_is c.begin.ensures in
    (searched_begun x c.search.ensures, λ b. absurd (omega arith))

pub returns : goal.returns
returns c =
    let x = subst (λ (a : Asking). Begun (world_asked a) a.v c.begin.new.seen) c.accessor.view_is c.begin.ensures in
    everyone_found x c.search.ensures refl (omega arith) c.walk.ensures
