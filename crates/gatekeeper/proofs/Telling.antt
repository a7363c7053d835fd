-- What is told through a lent place, which a refusal leaves alone.
use Rattle.std.proofs.Common.{ℕ, zero, suc, ◌≤◌, ◌≡◌, refl, List, Ok, Err, length, arith}
use Rattle.std.specs.Prelude.{Option, Result}
use Rattle.model.specs.Requests.{list, granted}
use Rattle.model.specs.Calls.{Left, ListAnswered, DegreeAnswered, SuggestLeft, SuggestAnswered}
use Rattle.refusals.specs.Numbers.{number, answer_of, count_of}
use Rattle.refusals.specs.declared.Refusal.{Refusal}
use Rattle.refusals.proofs.Apart.{number_above}
use Rattle.degree.specs.Told.{degree_named, DegreeCalled}
use Rattle.gatekeeper.specs.Told.{told_or, degree_told}

-- nothing is counted where a call was refused
none_counted : (k count : ℕ) → 1 ≤ k → granted k count 0 ≡ 0
none_counted zero count l = absurd (omega arith)
none_counted (suc k) count l = refl

pub counted : (x : Result ℕ Refusal) (held : ℕ) → granted (answer_of x) (told_or x held) 0 ≡ count_of x
counted (Ok n) held = refl
counted (Err refusal) held = none_counted (number refusal) held (number_above refusal)

-- only a grant writes
pub kept : {T : Type 0} (x : Result T Refusal) (held : T) → (answer_of x ≡ 0 → ⊥) → told_or x held ≡ held
kept (Ok n) held unlike = absurd (unlike refl)
kept (Err refusal) held unlike = refl

pub list_told : {b net : List ℕ} {v u : ℕ} {out after : List ℕ} (x : Result ℕ Refusal) (held : ℕ)
    → Left b net (list v u (length out)) out (answer_of x) (count_of x) after net
    → ListAnswered b net v u out held (answer_of x) after (told_or x held)
list_told x held h = record { left = rw (counted x held) h; kept = kept x held }

pub suggest_told : {b net : List ℕ} {v c : ℕ} {out after : List ℕ} (x : Result ℕ Refusal) (held : ℕ)
    → SuggestLeft b net v c out (answer_of x) (count_of x) after
    → SuggestAnswered b net v c out held (answer_of x) after (told_or x held)
suggest_told x held h = record { left = rw (counted x held) h; kept = kept x held }

pub degree_answered : {b net : List ℕ} {v u : ℕ} (x : Result (Option ℕ) Refusal) (held : ℕ) → DegreeCalled b net v u x
    → DegreeAnswered b net v u held (answer_of (degree_told x)) (told_or (degree_told x) held)
degree_answered (Ok told) held h = record {
  answered = h.answered;
  told = λ z. (degree_named told, h.told, refl);
  kept = λ unlike. absurd (unlike refl);
}
degree_answered (Err refusal) held h = record {
  answered = h.answered;
  told = λ z. absurd (omega (arith, number_above refusal));
  kept = λ unlike. refl;
}
