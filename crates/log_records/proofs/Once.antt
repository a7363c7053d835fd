-- The contracts of the log reader leave nothing open: two answers that meet them are one, and so are their places.
use Prim.Native.Nat.{ℕ}
use mathlib.Core.Path.{◌≡◌, refl, sym, ap, ◌∙◌}
use mathlib.Core.List.{List}
use native.Mathlib.Omega.{arith}
use Rattle.model.specs.Log.{place_after}
use Rattle.model.proofs.Logging.{next_once}
use Rattle.kinds.specs.Kinds.{request_of}
use Rattle.kinds.proofs.Once.{asked_once}
use Rattle.std.specs.Prelude.{Some, None, Ok, Err}
use Rattle.refusals.specs.Numbers.{number}
use Rattle.refusals.proofs.Apart.{number_apart}
use Rattle.log_records.specs.Read.{Answer, outcome, SaidAt, Read}

outcome_once : (a b : Answer) → outcome 0 a ≡ outcome 0 b → a ≡ b
outcome_once (Some (Ok q)) (Some (Ok q')) e = let f : request_of q 0 ≡ request_of q' 0 = cc in ap (λ x. Some (Ok x)) (asked_once 0 f)
outcome_once (Some (Ok q)) (Some (Err x)) e = let z : ◌≡◌ {A = ℕ} 0 1 = cc in absurd (omega arith)
outcome_once (Some (Ok q)) None e = let z : ◌≡◌ {A = ℕ} 0 1 = cc in absurd (omega arith)
outcome_once (Some (Err x)) (Some (Ok q)) e = let z : ◌≡◌ {A = ℕ} 0 1 = cc in absurd (omega arith)
outcome_once (Some (Err x)) (Some (Err y)) e = let f : number x ≡ number y = cc in ap (λ z. Some (Err z)) (number_apart x y f)
outcome_once (Some (Err x)) None e = let z : ◌≡◌ {A = ℕ} 0 1 = cc in absurd (omega arith)
outcome_once None (Some (Ok q)) e = let z : ◌≡◌ {A = ℕ} 0 1 = cc in absurd (omega arith)
outcome_once None (Some (Err x)) e = let z : ◌≡◌ {A = ℕ} 0 1 = cc in absurd (omega arith)
outcome_once None None e = refl

pub said_once : (log : List ℕ) (place : ℕ) (a b : Answer) → SaidAt log place a → SaidAt log place b → a ≡ b
said_once log place a b r s = outcome_once a b (next_once log 0 place (outcome 0 a) (outcome 0 b) (r 0) (s 0))

pub read_once : {log : List ℕ} {place p q : ℕ} {a b : Answer} → Read log place a p → Read log place b q → (a ≡ b) × (p ≡ q)
read_once {log} {place} {p} {q} {a} {b} r s =
    let e : a ≡ b = said_once log place a b r.says s.says in
    (e, r.moves 0 ∙ (ap (λ (x : Answer). place_after log place (outcome 0 x)) e ∙ sym (s.moves 0)))
