-- What the log reader answers, in document 01's numbers and requests.
use Rattle.std.specs.Prelude.{ℕ, ◌≡◌, List, Option, None, Some, Result, Ok, Err}
use Rattle.model.specs.Log.{Outcome, ended, refused, request, NextAt, place_after}
use Rattle.kinds.specs.Kinds.{request_of}
use Rattle.kinds.specs.declared.Request.{Request}
use Rattle.refusals.specs.Numbers.{number}
use Rattle.refusals.specs.declared.Refusal.{Refusal}

abbrev pub Answer : Type 0
Answer = Option (Result Request Refusal)

-- document 01's outcome of an answer, where a list is lent this many places
abbrev pub outcome : ℕ → Answer → Outcome
outcome lent (Some (Ok q)) = request (request_of q lent)
outcome lent (Some (Err refusal)) = refused (number refusal)
outcome lent None = ended

-- the answer is what document 01 says at this place of the log
abbrev pub SaidAt : List ℕ → ℕ → Answer → Type 0
SaidAt log place answer = (lent : ℕ) → NextAt log lent place (outcome lent answer)

-- an answer, and the place afterwards
pub record Read (log : List ℕ) (place : ℕ) (answer : Answer) (after : ℕ) : Type 0 where
  pub says : SaidAt log place answer
  pub moves : (lent : ℕ) → after ≡ place_after log place (outcome lent answer)
