use Rattle.std.proofs.Common.{arith, refl, inl, inr}
use mathlib.Core.Bool.{true≢false}
use lib.ListN.{set}
use Rattle.model.proofs.Deciding.{said_yes, said_no}
use Rattle.walk.specs.Walks.{sought, Met, Expanded}
use Rattle.walk.proofs.StepsMarked.{chosen, first_unseen, asked, still_unmet, still_seen, nobody_else, all_seen, walk_on, less, none_added, friends_added, passed_by, met_found}
use Rattle.walk.proofs.walk.Goals as goal
use Rattle.walk.proofs.walk.Goals.{else-first-members-via-then-first-members+else-allows, else-first-members-via-else-first-members}

pub expand-requires : goal.expand-requires
expand-requires c =
    let i = c.walk.invariant in
    let (all, h) = chosen c.accessor.view_is c.accessor.inside.world.now.ready.counts.members c.members-members.ensures i.walking i.nobody c.in-Some.ensures in
    let (least, everyone) = first_unseen _ c.first_marked-in-walk.result (still_seen h i.everyone) c.first_marked-in-walk.ensures c.unwrap_or-first.ensures in
    (omega (arith, h.member), omega (arith, least), everyone)

pub returns-in_default-expand : goal.returns-in_default-expand
returns-in_default-expand c =
    let i = c.walk.invariant in
    let (_, h) = chosen c.accessor.view_is c.accessor.inside.world.now.ready.counts.members c.members-members.ensures i.walking i.nobody c.in-Some.ensures in
    let met = asked c.accessor.view_is c.accessor.inside.world.now.ready.counts.members (λ g k. Met g c.in-Some.m (sought k c.args.u)) c.in_default-expand.ensures in
    record { found = λ y. met_found h (said_yes c.if-allows.true c.allows.ensures) met; ended = λ y. absurd (true≢false y) }

pub walk-smaller-then-allows : goal.walk-smaller-then-allows
walk-smaller-then-allows c =
    let i = c.walk.invariant in
    let (_, h) = chosen c.accessor.view_is c.accessor.inside.world.now.ready.counts.members c.members-members.ensures i.walking i.nobody c.in-Some.ensures in
    let x = asked c.accessor.view_is c.accessor.inside.world.now.ready.counts.members (λ g k. Expanded g c.in-Some.m (sought k c.args.u) (set c.walk.seen c.in-Some.m 2) k c.in-Some-expand.least c.expand.new.seen) c.in-Some-expand.ensures in
    less h (friends_added h (said_yes c.if-allows.true c.allows.ensures) x)

pub walk-preserved-then-allows : goal.walk-preserved-then-allows
walk-preserved-then-allows c =
    let i = c.walk.invariant in
    let (all, h) = chosen c.accessor.view_is c.accessor.inside.world.now.ready.counts.members c.members-members.ensures i.walking i.nobody c.in-Some.ensures in
    let x = asked c.accessor.view_is c.accessor.inside.world.now.ready.counts.members (λ g k. Expanded g c.in-Some.m (sought k c.args.u) (set c.walk.seen c.in-Some.m 2) k c.in-Some-expand.least c.expand.new.seen) c.in-Some-expand.ensures in
    let allowed = said_yes c.if-allows.true c.allows.ensures in
    let y = friends_added h allowed x in
    let (least, everyone) = first_unseen _ c.first_marked-in-walk.result (still_seen h i.everyone) c.first_marked-in-walk.ensures c.unwrap_or-first.ensures in
    record {
      low = omega (arith, x.least, h.member);
      first = least;
      nobody = nobody_else h c.expand.new.seen (omega (arith, x.least)) x.same;
      everyone = all_seen h y (omega (arith, least)) everyone;
      walking = walk_on h y (passed_by h allowed x);
    }

pub walk-smaller : goal.walk-smaller
walk-smaller c =
    let i = c.walk.invariant in
    let (all, h) = chosen c.accessor.view_is c.accessor.inside.world.now.ready.counts.members c.members-members.ensures i.walking i.nobody c.in-Some.ensures in
    let (_, everyone) = first_unseen _ c.first_marked-in-walk.result (still_seen h i.everyone) c.first_marked-in-walk.ensures c.unwrap_or-first.ensures in
    less h
    (none_added h
    (elim c.else-first-members.branch [
      | else-first-members-via-then-first-members+else-allows w ↦ inl (said_no w.if-allows.false w.allows.ensures)
      | else-first-members-via-else-first-members w ↦ inr (λ k a. everyone k (omega (arith, w.if-first-members.false, all)))
    ]))

pub walk-preserved : goal.walk-preserved
walk-preserved c =
    let i = c.walk.invariant in
    let (all, h) = chosen c.accessor.view_is c.accessor.inside.world.now.ready.counts.members c.members-members.ensures i.walking i.nobody c.in-Some.ensures in
    let (least, everyone) = first_unseen _ c.first_marked-in-walk.result (still_seen h i.everyone) c.first_marked-in-walk.ensures c.unwrap_or-first.ensures in
    record {
      low = omega (arith, h.member);
      first = least;
      nobody = nobody_else h _ (omega arith) (λ k b. refl);
      everyone = everyone;
      walking =
          walk_on h
          (none_added h
          (elim c.else-first-members.branch [
            | else-first-members-via-then-first-members+else-allows w ↦ inl (said_no w.if-allows.false w.allows.ensures)
            | else-first-members-via-else-first-members w ↦ inr (λ k a. everyone k (omega (arith, w.if-first-members.false, all)))
          ]))
          (still_unmet h);
    }
