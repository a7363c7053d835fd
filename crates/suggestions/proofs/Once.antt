-- Suggest leaves no two results.
use Rattle.std.proofs.Common.{ℕ, ◌≡◌, List, Result}
use Rattle.model.proofs.Leaving.{suggest_left_once}
use Rattle.refusals.specs.declared.Refusal.{Refusal}
use Rattle.refusals.proofs.Apart.{result_apart}
use Rattle.suggestions.specs.Answered.{SuggestCalled}

pub suggest_once : (b net : List ℕ) (v c : ℕ) (out : List ℕ) (x y : Result ℕ Refusal) (after after' : List ℕ)
    → SuggestCalled b net v c out x after
    → SuggestCalled b net v c out y after'
    → (x ≡ y) × (after ≡ after')
suggest_once b net v c out x y after after' f g =
    let (e, n, o) = suggest_left_once b net v c out f g in
    (result_apart x y e n, o)
