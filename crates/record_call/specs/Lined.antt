-- The line of a log's record.
use Rattle.std.specs.Prelude.{ℕ, ◌≡◌, List, length, Option, None, Some, Result, Ok, Err}
use Rattle.model.specs.Requests.{Request}
use Rattle.model.specs.Calls.{Left}
use Rattle.model.specs.Log.{ended, refused, request, NextAt, place_after}
use Rattle.refusals.specs.Numbers.{answer_of, count_of}
use Rattle.refusals.specs.declared.Refusal.{Refusal}
use Rattle.refusals.specs.declared.Refusal.TheVariants.{LogRecord}
use Rattle.record_call.specs.declared.Line.{Line}

-- a record's request was called, and the next place is behind the record; or it is none, a 14
abbrev pub LineOf : List ℕ → List ℕ → ℕ → List ℕ → List ℕ → Result ℕ Refusal → Option ℕ → List ℕ → List ℕ → Type 0
LineOf b log k net out answer (Some place) after left =
    (q : Request)
    × NextAt log (length out) k (request q)
    × (place ≡ place_after log k (request q))
    × Left b net q out (answer_of answer) (count_of answer) left after
LineOf b log k net out answer None after left = NextAt log (length out) k (refused 14) × (answer ≡ Err LogRecord) × (after ≡ net) × (left ≡ out)

-- the line of the record at a place; none at the log's end, and then nothing is written
abbrev pub Lined : List ℕ → List ℕ → ℕ → List ℕ → List ℕ → Option Line → List ℕ → List ℕ → Type 0
Lined b log k net out (Some line) after left = LineOf b log k net out line.answer line.next after left
Lined b log k net out None after left = NextAt log (length out) k ended × (after ≡ net) × (left ≡ out)
