-- Many views in one call (docs/reference.md, "Views").
use Rattle.std.specs.Prelude.{ℕ, ◌≡◌, List}
use Rattle.std.specs.List.{AllZip}
use Rattle.model.specs.Answers.{Answers}
use Rattle.model.specs.Requests.{view, answered}
use Rattle.model.specs.Calls.{open_needs, Called}

-- viewer asks for an item of owner; the place for the answer
pub record Question : Type 0 where
  pub viewer : ℕ
  pub owner : ℕ
  pub item : ℕ
  pub answer : ℕ

-- the question with its answer filled in: that of a single view on this network; nothing else of it changed
pub record FilledIn (b net : List ℕ) (before after : Question) : Type 0 where
  pub viewer : after.viewer ≡ before.viewer
  pub owner : after.owner ≡ before.owner
  pub item : after.item ≡ before.item
  pub viewed : Called b net (answered (view before.viewer before.owner before.item) after.answer) net

-- what the call views leaves: its answer, the scheme check's or 5 for the whole list; a grant fills in every answer, a refusal none
pub record ViewsLeft (b net : List ℕ) (questions : List Question) (answer : ℕ) (after : List Question) : Type 0 where
  pub answered : Answers (open_needs b net) answer
  pub filled_in : answer ≡ 0 → AllZip (FilledIn b net) questions after
  pub kept : (answer ≡ 0 → ⊥) → after ≡ questions
