use Rattle.std.proofs.Common.{sym, ◌∙◌}
use Rattle.std.proofs.lemmas.List.{set-get_or}
use Rattle.page.proofs.Entering.{going_past, going_on, inserted}
use Rattle.page.proofs.insert.Goals as goal
use Rattle.page.proofs.insert.Goals.{then-not-before, else-not-before}

pub loop-x-preserved : goal.loop-x-preserved
loop-x-preserved c =
    let o = c.requires.in_order in
    let g = c.loop-x.invariant in
    let l = c.loop-x-test.true in
    let t = c.before-in-loop-x.ensures in
    elim c.if-not-before.branch [
      | then-not-before w ↦ rw (w.page-is, w.carried-is, w.replace-carried.ensures.value, w.replace-carried.ensures.after) (going_on o g l (sym t ∙ w.if-not-before.true))
      | else-not-before w ↦ rw (w.page-is, w.carried-is, set-get_or) (going_past o g l (sym t ∙ w.if-not-before.false))
    ]

pub returns : goal.returns
returns c = inserted c.loop-x.invariant c.loop-x-test.false
