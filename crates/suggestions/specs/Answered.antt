-- What suggest answers, in document 01's numbers.
use Rattle.std.specs.Prelude.{ℕ, List, Result}
use Rattle.model.specs.Calls.{SuggestLeft}
use Rattle.refusals.specs.Numbers.{answer_of, count_of}
use Rattle.refusals.specs.declared.Refusal.{Refusal}

-- what the call leaves
abbrev pub SuggestCalled : List ℕ → List ℕ → ℕ → ℕ → List ℕ → Result ℕ Refusal → List ℕ → Type 0
SuggestCalled b net v c out answer after = SuggestLeft b net v c out (answer_of answer) (count_of answer) after
