-- Where an error of a run of cases comes from.
use Rattle.std.specs.Prelude.{ℕ, List, Result, Err}
use Rattle.std.specs.Borrow.{MutBor}
use Rattle.std.specs.declared.io.Error.{Error}
use Rattle.cases.specs.declared.Stop.{Stop}
use Rattle.cases.specs.declared.Stop.TheVariants.{Output}

-- a case stopped with this error: its input, its number, its two parts, its result, and what it left
abbrev pub OfCase : {I U : Type 0} → (I → ℕ → MutBor (List ℕ) → MutBor (List ℕ) → Result U Stop → I → MutBor (List ℕ) → MutBor (List ℕ) → Type 0) → Error → Type 0
OfCase {I} post error =
    (input : I)
    × (number : ℕ)
    × (first second : MutBor (List ℕ))
    × (input' : I)
    × (first' second' : MutBor (List ℕ))
    × post input number first second (Err (Output error)) input' first' second'
