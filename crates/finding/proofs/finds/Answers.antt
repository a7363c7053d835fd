use Rattle.std.proofs.Common.{arith, refl, subst}
use Rattle.std.proofs.lemmas.List.{get_or-replicate}
use Rattle.prepared.specs.Asking.{Asking, world_asked}
use Rattle.starts.specs.Starts.{Begun}
use Rattle.finding.proofs.ExactlyFound.{found_allowed, not_allowed, begun_walk, searched_walk, searched_unmet, walks_decide}
use Rattle.finding.proofs.finds.Goals as goal

pub begin-requires : goal.begin-requires
begin-requires c = (c.accessor.invariant.0, λ k b. get_or-replicate 256 k 0 0 b)

pub returns-then-seen-u-ne0 : goal.returns-then-seen-u-ne0
returns-then-seen-u-ne0 c =
    let x = subst (λ (a : Asking). Begun (world_asked a) a.v c.begin.new.seen) c.accessor.view_is c.begin.ensures in
    (begun_walk x).sound c.args.u c.requires (omega arith)

pub returns-then-allows : goal.returns-then-allows
returns-then-allows c =
    let a = c.args.accessor.now in
    found_allowed (world_asked a) a.v c.args.u c.allows.ensures c.requires c.if-allows.true

pub walk-requires : goal.walk-requires
walk-requires c =
    let x = subst (λ (a : Asking). Begun (world_asked a) a.v c.begin.new.seen) c.accessor.view_is c.begin.ensures in
    (begun_walk x, λ b. omega (arith, c.if-seen-u-ne0.false))

pub walk-requires-2 : goal.walk-requires-2
walk-requires-2 c =
    let a = c.args.accessor.now in
    let y = (c.walk.ensures.ended c.if-walk.false).walking in
    (searched_walk y c.search.ensures, searched_unmet y c.search.ensures (λ b. not_allowed (world_asked a) a.v c.args.u c.allows.ensures c.if-allows.false))

pub returns : goal.returns
returns c =
    let x = subst (λ (a : Asking). Begun (world_asked a) a.v c.begin.new.seen) c.accessor.view_is c.begin.ensures in
    walks_decide x (c.walk.ensures.ended c.if-walk.false) c.search.ensures refl c.walk-2.ensures c.requires
