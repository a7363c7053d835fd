-- What the scheme check answers.
use Rattle.std.specs.Prelude.{ℕ, ◌≡◌, List, Result, Ok, Err}
use Rattle.model.specs.Answers.{Answers}
use Rattle.model.specs.SchemeBytes.{scheme_needs, Accepted}
use Rattle.refusals.specs.Numbers.{number}
use Rattle.refusals.specs.declared.Refusal.{Refusal}
use Rattle.tables.specs.Read.{CountsOf, MarksOf}
use Rattle.tables.specs.declared.reading.Scheme.{Scheme}

-- what is read once of an accepted scheme
pub record ReadOf (b : List ℕ) (s : Scheme) : Type 0 where
  pub same : s.bytes.now ≡ b
  pub counts : CountsOf b s.counts
  pub marks : MarksOf b s.counts.states s.counts.marks

-- the answer is document 01's: what is read once of an accepted scheme, or the first refusal that applies
abbrev pub Checked : List ℕ → Result Scheme Refusal → Type 0
Checked b (Ok s) = Accepted b × ReadOf b s
Checked b (Err refusal) = Answers (scheme_needs b) (number refusal)
