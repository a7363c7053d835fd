-- What is written leaves no two results.
use Prim.Native.Nat.{ℕ, ◌≤◌}
use mathlib.Core.Path.{◌≡◌, refl, ap, sym, ◌∙◌}
use mathlib.Core.Bool.{Bool, true, false, cond}
use mathlib.Core.List.{List, ◌++◌}
use lib.ListN.{length, drop}
use Rattle.model.specs.Decides.{Decides}
use Rattle.standard.specs.Written.{Written}

decided_once : (P : Type 0) (a b : Bool) → Decides a P → Decides b P → a ≡ b
decided_once P true true p q = refl
decided_once P true false p q = absurd (q p)
decided_once P false true p q = absurd (p q)
decided_once P false false p q = refl

pub written_once : {Asked : Type 0} {bytes out after after' : List ℕ} (a b : Bool) → Written Asked bytes out a after → Written Asked bytes out b after'
    → (a ≡ b) × (after ≡ after')
written_once {Asked} {bytes} {out} a b f g =
    let e : a ≡ b = decided_once (Asked × (length bytes ≤ length out)) a b f.says g.says in
    (e, f.leaves ∙ ap (λ (x : Bool). cond x (bytes ++ drop (length bytes) out) out) e ∙ sym g.leaves)
