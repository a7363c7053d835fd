-- What a list answers, in document 01's numbers.
use Rattle.std.specs.Prelude.{ℕ, List, length, Result}
use Rattle.model.specs.Requests.{list}
use Rattle.model.specs.Calls.{Left}
use Rattle.refusals.specs.Numbers.{answer_of, count_of}
use Rattle.refusals.specs.declared.Refusal.{Refusal}

-- what a list's call leaves
abbrev pub ListCalled : List ℕ → List ℕ → ℕ → ℕ → List ℕ → Result ℕ Refusal → List ℕ → Type 0
ListCalled b net v u out answer after = Left b net (list v u (length out)) out (answer_of answer) (count_of answer) after net
