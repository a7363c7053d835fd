-- A list of questions leaves no two results.
use Rattle.std.proofs.Common.{ℕ, ◌≡◌, refl, ap, List, [], ◌∷◌, Result}
use Rattle.model.specs.Questions.{Question}
use Rattle.model.proofs.Questioning.{views_once}
use Rattle.refusals.specs.declared.Refusal.{Refusal}
use Rattle.refusals.proofs.Apart.{granted_apart}
use Rattle.views.specs.Answered.{question_of, questions_of, ViewsCalled}
use Rattle.views.specs.declared.Question.{Question as Lent}

question_apart : (q r : Lent) → question_of q ≡ question_of r → q ≡ r
question_apart q r e = λ i. record { viewer = (e i).viewer; owner = (e i).owner; item = (e i).item; answer = (e i).answer }

questions_apart : (qs rs : List Lent) → questions_of qs ≡ questions_of rs → qs ≡ rs
questions_apart [] [] e = refl
questions_apart [] (r ∷ rs) e = cc
questions_apart (q ∷ qs) [] e = cc
questions_apart (q ∷ qs) (r ∷ rs) e =
    λ i. question_apart q r (ap head e) i ∷ questions_apart qs rs (ap tail e) i
  where
    head : List Question → Question
    head [] = question_of q
    head (x ∷ l) = x

    tail : List Question → List Question
    tail [] = []
    tail (x ∷ l) = l

pub views_called_once : (b net : List ℕ) (questions : List Lent) (x y : Result (Unit {0}) Refusal) (after after' : List Lent)
    → ViewsCalled b net questions x after
    → ViewsCalled b net questions y after'
    → (x ≡ y) × (after ≡ after')
views_called_once b net questions x y after after' f g =
    let (e, same) = views_once b net (questions_of questions) (questions_of after) (questions_of after') _ _ f g in
    (granted_apart x y e, questions_apart after after' same)
