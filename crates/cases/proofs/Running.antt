-- An error that a case stopped with is of that case.
use Rattle.std.proofs.Common.{ℕ, List, MutBor}
use Rattle.std.specs.Prelude.{Result, Ok, Err, IfErr, ◌≡◌}
use Rattle.std.specs.declared.io.Error.{Error}
use Rattle.cases.specs.declared.Stop.{Stop}
use Rattle.cases.specs.declared.Stop.TheVariants.{Output}
use Rattle.cases.specs.Runs.{OfCase}

pub of_case : {I U : Type 0} (post : I → ℕ → MutBor (List ℕ) → MutBor (List ℕ) → Result U Stop → I → MutBor (List ℕ) → MutBor (List ℕ) → Type 0) (input : I) (number : ℕ) (first second : MutBor (List ℕ)) (result : Result U Stop) (input' : I) (first' second' : MutBor (List ℕ))
    → post input number first second result input' first' second'
    → IfErr result (λ stop. (error : Error) → stop ≡ Output error → OfCase post error)
of_case post input number first second (Ok x) input' first' second' p = tt
of_case post input number first second (Err stop) input' first' second' p = λ error e. (input, number, first, second, input', first', second', rw e at p)
