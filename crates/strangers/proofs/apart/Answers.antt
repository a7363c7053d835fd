-- The lowest search policy's sides decide.
use Rattle.std.proofs.Common.{◌≡◌, ℕ, List, sym, ap, ◌∙◌, arith}
use Rattle.model.specs.Bytes.{byte}
use Rattle.model.specs.Scheme.{lowest}
use Rattle.model.specs.SchemeBytes.{scheme_of, P}
use Rattle.strangers.specs.Strangers.{SidesOf}
use Rattle.strangers.proofs.Strangers.{lowest_below, searched, apart_decides}
use Rattle.strangers.proofs.apart.Goals as goal

pub admitting-requires : goal.admitting-requires
admitting-requires c =
    let s = c.args.scheme.now in
    let b = s.bytes.now in
    let e : c.lowest-search.result ≡ lowest ((scheme_of b).mask 0) = c.lowest-search.ensures.0 ∙ ap lowest c.mask.ensures.0 in
    rw (e, s.read.counts.policies)
    (lowest_below (P b) ((scheme_of b).mask 0) (rw (← c.mask.ensures.0) (omega arith)) (s.read.bytes.masks 0 (omega arith)))

-- the code has the sides of the lowest search policy
sides_are : (b : List ℕ) (mask search sides : ℕ) → mask ≡ (scheme_of b).mask 0 → search ≡ lowest mask → SidesOf sides ((scheme_of b).policy search)
    → SidesOf sides ((scheme_of b).policy (lowest ((scheme_of b).mask 0)))
sides_are b mask search sides e f h = rw (f, e) at h

pub returns-then-not-offered : goal.returns-then-not-offered
returns-then-not-offered c =
    let s = c.args.scheme.now in
    let b = s.bytes.now in
    let place = c.marks_at.ensures.2 b s.read.counts in
    let m : byte b c.marks_at.result ≡ 0 = omega arith in
    apart_decides b c.admitting.result
    (sides_are b c.mask.result c.lowest-search.result c.admitting.result c.mask.ensures.0 c.lowest-search.ensures.0 c.admitting.ensures)
    (rw place at m)
    (rw c.from-sides.ensures at (sym c.offered.ensures ∙ c.if-not-offered.true))
    c.offered-then-not-offered.result
    (rw c.from-sides.ensures at (sym c.offered-then-not-offered.ensures))

pub returns-else-not-offered : goal.returns-else-not-offered
returns-else-not-offered c =
    let b = c.args.scheme.now.bytes.now in
    rw c.if-not-offered.false
    (searched b c.admitting.result
    (sides_are b c.mask.result c.lowest-search.result c.admitting.result c.mask.ensures.0 c.lowest-search.ensures.0 c.admitting.ensures)
    1 0 1 (omega arith) (omega arith) (omega arith) (λ z. omega arith)
    (rw c.from-sides.ensures at (sym c.offered.ensures ∙ c.if-not-offered.false)))
