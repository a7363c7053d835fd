use Rattle.std.proofs.Common.{◌+◌, ◌<◌, arith, below_more}
use Rattle.model.proofs.Bits.{bit_below, below_no_bit}
use Rattle.validity.specs.Chosen.{ColumnOffered}
use Rattle.validity.proofs.Validity.{inside, wider_offered, chosen_offered, offered_chosen}
use Rattle.validity.proofs.settings_offered.Goals as goal
use Rattle.validity.proofs.settings_offered.Goals.{else-not-subset-via-then-not-subset+else-not-subset-2, else-not-subset-via-else-not-subset}

pub chosen-requires-clause-stride_bound : goal.chosen-requires-clause-stride_bound
chosen-requires-clause-stride_bound c m a =
    let s = c.args.scheme.now in
    rw c.resources-resources.ensures.0 (inside s c.args.settings.now c.requires.sized (omega arith) m a)

pub chosen-requires-clause-by_index : goal.chosen-requires-clause-by_index
chosen-requires-clause-by_index c m a =
    let s = c.args.scheme.now in
    rw c.resources-resources.ensures.0
    (bit_below c.args.wider 32 _ (below_no_bit 32 c.args.wider c.ranges.wider.fits) (c.requires.by_index _ (inside s c.args.settings.now c.requires.sized (omega arith) m a)))

pub returns-then-not-subset-2 : goal.returns-then-not-subset-2
returns-then-not-subset-2 c o =
    let s = c.args.scheme.now in
    let l : c.loop-r.r < 2 + s.counts.primitives + s.counts.items = omega arith in
    c.if-not-subset-2.ensures
    (offered_chosen s c.args.settings.now c.requires.sized l c.mask-mask.ensures.0 (rw c.resources-resources.ensures.0 at c.chosen.ensures) (o c.loop-r.r l))

pub loop-r-preserved : goal.loop-r-preserved
loop-r-preserved c =
    let s = c.args.scheme.now in
    let l : c.loop-r.r < 2 + s.counts.primitives + s.counts.items = omega arith in
    below_more (ColumnOffered s c.args.settings.now) c.loop-r.r c.loop-r.invariant
    (elim c.else-not-subset.branch [
      | else-not-subset-via-then-not-subset+else-not-subset-2 w ↦
          chosen_offered s c.args.settings.now c.requires.sized l c.mask-mask.ensures.0 (rw c.resources-resources.ensures.0 at w.chosen.ensures) w.if-not-subset-2.ensures
      | else-not-subset-via-else-not-subset w ↦
          wider_offered s c.args.settings.now c.requires.sized l c.mask-mask.ensures.0 c.args.wider c.requires.by_index w.if-not-subset.ensures
    ])
