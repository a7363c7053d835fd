-- What the call degree answers, in document 02's numbers and values.
use Rattle.std.specs.Prelude.{ℕ, List, Option, None, Some, Result, Ok, Err}
use Rattle.model.specs.Answers.{Answers}
use Rattle.model.specs.Graph.{Graph, Degree, friendships, none, IsDegree}
use Rattle.model.specs.Requests.{find}
use Rattle.model.specs.Calls.{call_needs}
use Rattle.network.specs.Ready.{graph_of}
use Rattle.refusals.specs.Numbers.{answer_of}
use Rattle.refusals.specs.declared.Refusal.{Refusal}

-- document 02's degree
abbrev pub degree_named : Option ℕ → Degree
degree_named (Some d) = friendships d
degree_named None = none

-- its value: a grant tells the degree of u and v
abbrev pub Tells : Graph → ℕ → ℕ → Result (Option ℕ) Refusal → Type 0
Tells g u v (Ok told) = IsDegree g u v (degree_named told)
Tells g u v (Err refusal) = Unit {0}

-- what the call degree answers: find's requirements in find's order, then the degree
pub record DegreeCalled (b net : List ℕ) (v u : ℕ) (answer : Result (Option ℕ) Refusal) : Type 0 where
  pub answered : Answers (call_needs b net (find v u)) (answer_of answer)
  pub told : Tells (graph_of b net) u v answer
