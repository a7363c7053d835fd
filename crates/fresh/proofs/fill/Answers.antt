use Rattle.std.proofs.Common.{◌+◌, ◌*◌, ◌≤◌, length, arith, refl}
use Rattle.network.proofs.Reading.{stride_next}
use Rattle.fresh.proofs.Filling.{all_none, all_more}
use Rattle.fresh.proofs.fill.Goals as goal

pub loop-m-init : goal.loop-m-init
loop-m-init c = all_none _ _ _ _

pub slice_bounds-fill_member-end : goal.slice_bounds-fill_member-end
slice_bounds-fill_member-end c =
    let r = c.resources-resources.result in
    let p : c.args.from + c.args.scheme.now.counts.members * r ≤ length c.args.network.now = rw c.resources-resources.ensures.0 c.requires in
    omega (arith, p, (stride_next c.args.from r c.loop-m.m c.args.scheme.now.counts.members refl c.loop-m-test.true).1)

pub loop-m-preserved : goal.loop-m-preserved
loop-m-preserved c =
    let r = c.resources-resources.result in
    let p : c.args.from + c.args.scheme.now.counts.members * r ≤ length c.args.network.now = rw c.resources-resources.ensures.0 c.requires in
    let q = (stride_next c.args.from r c.loop-m.m c.args.scheme.now.counts.members refl c.loop-m-test.true).1 in
    all_more _ _ _ c.loop-m.invariant c.fill_member.ensures.0 c.fill_member.ensures.1 (omega arith) (rw c.resources-resources.ensures.0 refl) (omega (arith, p, q))
