-- A list's call leaves no two results.
use Rattle.std.proofs.Common.{ℕ, ◌≡◌, List, length}
use Rattle.std.specs.Prelude.{Result}
use Rattle.model.specs.Requests.{list}
use Rattle.model.proofs.Leaving.{left_once}
use Rattle.refusals.specs.declared.Refusal.{Refusal}
use Rattle.refusals.proofs.Apart.{result_apart}
use Rattle.requests.specs.Answered.{ListCalled}

pub list_once : (b net : List ℕ) (v u : ℕ) (out : List ℕ) (x y : Result ℕ Refusal) (after after' : List ℕ)
    → ListCalled b net v u out x after
    → ListCalled b net v u out y after'
    → (x ≡ y) × (after ≡ after')
list_once b net v u out x y after after' f g =
    let (e, n, o, same) = left_once b net (list v u (length out)) out f g in
    (result_apart x y e n, o)
