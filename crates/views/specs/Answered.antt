-- What views answers, in document 02's numbers and values.
use Rattle.std.specs.Prelude.{ℕ, List, Result, map}
use Rattle.model.specs.Requests.{view, answered}
use Rattle.model.specs.Calls.{Called}
use Rattle.model.specs.Questions.{Question, ViewsLeft}
use Rattle.refusals.specs.Numbers.{answer_of}
use Rattle.refusals.specs.declared.Refusal.{Refusal}
use Rattle.network.specs.declared.world.World.{World}
use Rattle.views.specs.declared.Question.{Question as Lent}

-- document 02's question
abbrev pub question_of : Lent → Question
question_of q = record { viewer = q.viewer; owner = q.owner; item = q.item; answer = q.answer }

abbrev pub questions_of : List Lent → List Question
questions_of = map question_of

-- a single view's answer on the network that the world holds
abbrev pub ViewAnswered : World → ℕ → ℕ → ℕ → Result (Unit {0}) Refusal → Type 0
ViewAnswered w v u o answer = Called w.scheme.bytes.now w.network.now (answered (view v u o) (answer_of answer)) w.network.now

-- what the call leaves
abbrev pub ViewsCalled : List ℕ → List ℕ → List Lent → Result (Unit {0}) Refusal → List Lent → Type 0
ViewsCalled b net questions answer after = ViewsLeft b net (questions_of questions) (answer_of answer) (questions_of after)
