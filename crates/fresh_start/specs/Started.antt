-- How a run of the log program starts.
use Rattle.std.specs.Prelude.{ℕ, ◌≡◌, List, take, Result, Ok, Err}
use Rattle.model.specs.Answers.{Answers}
use Rattle.model.specs.Calls.{Fresh, FrontOnly}
use Rattle.model.specs.Text.{start_needs}
use Rattle.refusals.specs.Numbers.{number}
use Rattle.refusals.specs.declared.Refusal.{Refusal}

-- a fresh network at the front of the lent bytes and nowhere else; or the refusal, and nothing written
abbrev pub Started : List ℕ → List ℕ → List ℕ → Result ℕ Refusal → List ℕ → Type 0
Started b log net (Ok count) after = Answers (start_needs b log) 0 × Fresh b (take count after) × FrontOnly count net after
Started b log net (Err refusal) after = Answers (start_needs b log) (number refusal) × (after ≡ net)
