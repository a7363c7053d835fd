-- What the call answers, to the list and to a question.
use Rattle.std.proofs.Common.{ℕ, ◌≡◌, refl, ap, List, map, Ok, Err, arith}
use Rattle.model.specs.Answers.{Answers}
use Rattle.model.specs.Requests.{view, answered}
use Rattle.model.specs.Calls.{open_needs, Called}
use Rattle.model.specs.Questions.{FilledIn}
use Rattle.std.specs.List.{AllZip}
use Rattle.network.specs.declared.world.World.{World}
use Rattle.opening.specs.Opened.{WorldOfBytes}
use Rattle.opening.proofs.Opening.{begun_granted}
use Rattle.refusals.specs.Numbers.{number}
use Rattle.refusals.specs.declared.Refusal.{Refusal}
use Rattle.refusals.proofs.Apart.{number_above}
use Rattle.views.specs.Answered.{question_of, ViewsCalled}
use Rattle.views.specs.declared.Question.{Question}

-- what is read past the end of a list
abbrev pub nobody : Question
nobody = record { viewer = 0; owner = 0; item = 0; answer = 0 }

pub one_filled : {b net : List ℕ} (first q : Question) (k : ℕ) → q ≡ first → Called b net (answered (view q.viewer q.owner q.item) k) net
    → FilledIn b net (question_of first) (question_of (record { viewer = q.viewer; owner = q.owner; item = q.item; answer = k }))
one_filled first q k e c = record { viewer = ap viewer e; owner = ap owner e; item = ap item e; viewed = rw e at c }
  where
    viewer : Question → ℕ
    viewer x = x.viewer

    owner : Question → ℕ
    owner x = x.owner

    item : Question → ℕ
    item x = x.item

-- scheme or network are refused
pub list_refused : (b net : List ℕ) (questions : List Question) (refusal : Refusal) → Answers (open_needs b net) (number refusal)
    → ViewsCalled b net questions (Err refusal) questions
list_refused b net questions refusal a = record {
  answered = a;
  filled_in = λ z. absurd (omega (arith, z, number_above refusal));
  kept = λ n. refl;
}

-- scheme and network pass
pub list_granted : {b net : List ℕ} {w : World} (questions after : List Question) → WorldOfBytes b net w → AllZip (FilledIn b net) (map question_of questions) (map question_of after)
    → ViewsCalled b net questions (Ok tt) after
list_granted questions after h f = record {
  answered = begun_granted h;
  filled_in = λ z. f;
  kept = λ n. absurd (n refl);
}
