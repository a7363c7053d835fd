-- Which answer a call gives: requirements in their order, each with the number that is answered where it is not met (docs/reference.md, "Answers").
use Rattle.std.specs.Prelude.{ℕ, ◌≡◌, List, [], ◌∷◌, ◌⊎◌}

-- a refusal's number, and what must hold for the call to get past it
abbrev pub Requirement : Type 1
Requirement = ℕ × Type 0

-- the number of the first requirement that is not met; 0, a grant, where all are met
abbrev pub Answers : List Requirement → ℕ → Type 0
Answers [] answer = answer ≡ 0
Answers ((number, Met) ∷ later) answer = ((Met → ⊥) × (answer ≡ number)) ⊎ (Met × Answers later answer)
