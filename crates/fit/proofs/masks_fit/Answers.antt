-- The number of a chunk is the mask of the resource.
use Rattle.std.proofs.Common.{◌≡◌, ◌*◌, arith}
use borrow.Author.Count.{below_more}
use Rattle.model.specs.Bytes.{four}
use Rattle.fit.proofs.Fits.{chunk_is}
use Rattle.fit.proofs.masks_fit.Goals as goal

pub returns-then-not-mask_fits : goal.returns-then-not-mask_fits
returns-then-not-mask_fits c =
    let r = c.loop-bytes.bytes-index in
    let m : c.from_le_bytes.result ≡ four c.args.masks.now (r * 4) = grind (arith, rw (chunk_is c.args.masks.now r c.as_chunks.ensures.front (omega arith)) at c.from_le_bytes.ensures) in
    λ f. c.if-not-mask_fits.ensures (rw m (f r (omega arith)))

pub loop-bytes-preserved : goal.loop-bytes-preserved
loop-bytes-preserved c =
    let r = c.loop-bytes.bytes-index in
    let m : c.from_le_bytes.result ≡ four c.args.masks.now (r * 4) = grind (arith, rw (chunk_is c.args.masks.now r c.as_chunks.ensures.front (omega arith)) at c.from_le_bytes.ensures) in
    below_more _ r c.loop-bytes.invariant (rw m at c.if-not-mask_fits.ensures)
