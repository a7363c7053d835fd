-- What marks tell of a viewer.
use Rattle.std.proofs.Common.{ℕ, ◌<◌, ◌≡◌, subst, not, nat_eq, List, Option, Some, IfSome, get_or, arith}
use Rattle.model.specs.Decides.{Decides}
use Rattle.model.specs.Finding.{World, Finds}
use Rattle.model.proofs.Deciding.{decided, iff, negated, is_eq}
use Rattle.finding.specs.Everyone.{Everyone}
use Rattle.views.specs.Marked.{Marked, MarkedFor}
use Rattle.views.specs.declared.Viewer.{Viewer}

pub marked_for : (s : Viewer) (v : ℕ) → s.v ≡ Some v → Marked s → MarkedFor s v
marked_for s v e h = subst (λ (x : Option ℕ). IfSome x (MarkedFor s)) e h

-- a member is found where it has a mark
pub mark_tells : {w : World} {v u : ℕ} {marks : List ℕ} → Everyone w v marks → u < w.graph.members → Decides (not (nat_eq (get_or marks u 0) 0)) (Finds w v u)
mark_tells {w} {v} {u} {marks} e l =
    let x = e.exactly u l in
    decided (iff (λ n. x.0 (omega (arith, n))) (λ f z. omega (arith, x.1 f)) (negated (is_eq (get_or marks u 0) 0)))
