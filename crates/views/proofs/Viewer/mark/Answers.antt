use Rattle.std.proofs.Common.{rules, ◌≡◌, refl, Some}
use Rattle.views.proofs.Marking.{marked_for}
use Rattle.views.proofs.Viewer.mark.Goals as goal

pub returns-then-eq : goal.returns-then-eq
returns-then-eq c = let e : c.args.self.now.v ≡ Some c.args.v = search rules in (refl, marked_for c.args.self.now c.args.v e c.requires.0, e)
