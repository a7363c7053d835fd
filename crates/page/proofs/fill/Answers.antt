use Rattle.std.proofs.Common.{◌∙◌}
use Rattle.std.proofs.lemmas.List.{length-take-le}
use Rattle.page.proofs.Entering.{filled_wanted}
use Rattle.page.proofs.fill.Goals as goal

pub returns : goal.returns
returns c =
    let b = length-take-le _ _ c.requires.0 in
    filled_wanted c.requires.0 (c.fill_places.auto.places ∙ b) (rw b at c.fill_places.ensures)
