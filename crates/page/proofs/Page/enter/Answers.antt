use Rattle.std.proofs.Common.{ℕ, ◌≡◌, length, arith, ◌∙◌}
use Rattle.std.proofs.lemmas.List.{length-append, length-drop, length-take-le}
use Rattle.page.proofs.Entering.{entered_more, entered_full}
use Rattle.page.proofs.Page.enter.Goals as goal

pub returns-then-used-self-clause-entered : goal.returns-then-used-self-clause-entered
returns-then-used-self-clause-entered c =
    let long : length c.insert-carried.new.page ≡ c.args.self.now.used = c.insert-carried.auto.page ∙ length-take-le _ _ c.requires.free in
    entered_more c.requires.free _ _ long c.insert-carried.ensures (omega (arith, length-append {A = ℕ}, length-drop {A = ℕ}))

pub returns-else-used-self-clause-entered : goal.returns-else-used-self-clause-entered
returns-else-used-self-clause-entered c =
    let long : length c.insert-carried.new.page ≡ c.args.self.now.used = c.insert-carried.auto.page ∙ length-take-le _ _ c.requires.free in
    entered_full c.requires.free _ _ long c.insert-carried.ensures (omega (arith, length-append {A = ℕ}, length-drop {A = ℕ}))
