-- Finding and admission, with 10 between them.
use Rattle.std.specs.Prelude.{ℕ, ◌≡◌, Bool, true, false, List, [], ◌∷◌, Option, None, Some, Result, Ok, Err}
use Rattle.model.specs.Answers.{Requirement, Answers}
use Rattle.model.specs.Finding.{World, Finds, Allows}
use Rattle.refusals.specs.Numbers.{number}
use Rattle.refusals.specs.declared.Refusal.{Refusal}

-- 9 if v does not find u; 10 if nothing is defined; 11 if u's setting for resource r does not admit v
abbrev pub judge_needs : World → ℕ → ℕ → ℕ → Bool → List Requirement
judge_needs w v u r defined = (9, Finds w v u) ∷ (10, defined ≡ true) ∷ (11, Allows w u r v) ∷ []

abbrev pub defined : {T : Type 0} → Option T → Bool
defined (Some x) = true
defined None = false

-- what is granted, where something is and all is met, or the first refusal that applies
abbrev pub Judged : {T : Type 0} → World → ℕ → ℕ → ℕ → Option T → Result T Refusal → Type 0
Judged w v u r granted (Ok x) = Answers (judge_needs w v u r (defined granted)) 0 × (granted ≡ Some x)
Judged w v u r granted (Err refusal) = Answers (judge_needs w v u r (defined granted)) (number refusal)
