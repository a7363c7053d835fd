-- What `judge` answers, as an answer of a call.
use Rattle.std.proofs.Common.{ℕ, refl, true, [], ◌∷◌, inl, inr, Ok, Err}
use Rattle.std.specs.Prelude.{Option, Result}
use Rattle.model.specs.Answers.{Answers}
use Rattle.model.specs.Finding.{World, Finds, Allows}
use Rattle.refusals.specs.Numbers.{answer_of}
use Rattle.refusals.specs.declared.Refusal.{Refusal}
use Rattle.checks.specs.Judged.{judge_needs, defined, Judged}

pub judged_answers : {T : Type 0} (w : World) (v u r : ℕ) (granted : Option T) (x : Result T Refusal)
    → Judged w v u r granted x
    → Answers (judge_needs w v u r (defined granted)) (answer_of x)
judged_answers w v u r granted (Ok x) a = a.0
judged_answers w v u r granted (Err refusal) a = a

-- 9, 10 and 11 where 10 does not apply
pub past_10 : (w : World) (v u r k : ℕ) → Answers (judge_needs w v u r true) k → Answers ((9, Finds w v u) ∷ (11, Allows w u r v) ∷ []) k
past_10 w v u r k (inl h) = inl h
past_10 w v u r k (inr (f, inl (n, e))) = absurd (n refl)
past_10 w v u r k (inr (f, inr (t, a))) = inr (f, a)
