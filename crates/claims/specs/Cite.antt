-- What happened, by what a caller learns of each function of `requests` and `changes` from its own contract.
use Rattle.std.specs.Prelude.{ℕ, ◌≡◌, List, length, take, Result}
use contract.Lifetimes.{Lfts}
use Rattle.std.specs.Borrow.{Bor, MutBor}
use denote.Triple.Clauses.{AtExit, at_exit}
use Rattle.model.specs.Requests.{Request, Turn}
use Rattle.refusals.specs.Numbers.{answer_of, count_of}
use Rattle.refusals.specs.declared.Refusal.{Refusal}
use Rattle.changes.specs.contracts.event as event-contract
use Rattle.changes.specs.contracts.set as set-contract
use Rattle.requests.specs.contracts.find as find-contract
use Rattle.requests.specs.contracts.list as list-contract
use Rattle.requests.specs.contracts.view as view-contract
use borrow.Fn.World.{w₀, ArgsD}
use borrow.Fn.Read.{r_last}
use Rattle.claims.specs.Told.{Told}
use Rattle.claims.specs.FiveCalls.{Changing, Finding, Viewing, Listing, OneOfFive}

-- a grant of nothing, or a refusal
abbrev pub Granted : Type 0
Granted = Result (Unit {0}) Refusal

-- what a caller learns of the four that write no list
abbrev pub EventLearnt : (κs : Lfts 2) → ArgsD event-contract.signature κs → Granted → AtExit event-contract.ended κs → Type 0
EventLearnt κs args told exit = Told ((event-contract.clauses w₀.𝓛 w₀.𝓜.mem w₀.𝓡.returns κs args).ensures tt told exit) (r_last _)

abbrev pub SetLearnt : (κs : Lfts 2) → ArgsD set-contract.signature κs → Granted → AtExit set-contract.ended κs → Type 0
SetLearnt κs args told exit = Told ((set-contract.clauses w₀.𝓛 w₀.𝓜.mem w₀.𝓡.returns κs args).ensures tt told exit) (r_last _)

abbrev pub FindLearnt : (κs : Lfts 2) → ArgsD find-contract.signature κs → Granted → AtExit find-contract.ended κs → Type 0
FindLearnt κs args told exit = Told ((find-contract.clauses w₀.𝓛 w₀.𝓜.mem w₀.𝓡.returns κs args).ensures tt told exit) (r_last _)

abbrev pub ViewLearnt : (κs : Lfts 2) → ArgsD view-contract.signature κs → Granted → AtExit view-contract.ended κs → Type 0
ViewLearnt κs args told exit = Told ((view-contract.clauses w₀.𝓛 w₀.𝓜.mem w₀.𝓡.returns κs args).ensures tt told exit) (r_last _)

-- and of a result with this number
abbrev pub Numbered : (Granted → Type 0) → ℕ → Type 0
Numbered Learnt k = (told : Granted) × (k ≡ answer_of told) × Learnt told

abbrev pub EventTold : Changing
EventTold κs args k exit = Numbered (λ told. EventLearnt κs args told exit) k

abbrev pub SetTold : Changing
SetTold κs args k exit = Numbered (λ told. SetLearnt κs args told exit) k

abbrev pub FindTold : Finding
FindTold κs args k exit = Numbered (λ told. FindLearnt κs args told exit) k

abbrev pub ViewTold : Viewing
ViewTold κs args k exit = Numbered (λ told. ViewLearnt κs args told exit) k

-- a list is lent an output too, and leaves it otherwise
module _ (κs : Lfts 3) (scheme network : Bor (List ℕ)) (output : MutBor (List ℕ)) where
  abbrev pub ListLearnt : ℕ → ℕ → Result ℕ Refusal → List ℕ → List ℕ → Type 0
  ListLearnt v u answer left after =
      (after ≡ (at_exit list-contract.ended κs (scheme, (network, (v, (u, (output, tt))))) (tt, (tt, (tt, (tt, (left, tt)))))).1.0.now)
      × Told
      ((list-contract.clauses w₀.𝓛 w₀.𝓜.mem w₀.𝓡.returns κs (scheme, (network, (v, (u, (output, tt)))))).ensures tt answer
      (at_exit list-contract.ended κs (scheme, (network, (v, (u, (output, tt))))) (tt, (tt, (tt, (tt, (left, tt)))))))
      (r_last _)

abbrev pub ListMade : Listing
ListMade b net v u places answer written after =
    (κs : Lfts 3)
    × (scheme network : Bor (List ℕ))
    × (output : MutBor (List ℕ))
    × (told : Result ℕ Refusal)
    × (left : List ℕ)
    × (scheme.now ≡ b)
    × (network.now ≡ net)
    × (length output.now ≡ places)
    × (answer ≡ answer_of told)
    × (written ≡ take (count_of told) left)
    × ListLearnt κs scheme network output v u told left after

abbrev pub CallOf : List ℕ → List ℕ → Request → ℕ → List ℕ → List ℕ → Type 0
CallOf = OneOfFive EventTold SetTold FindTold ViewTold ListMade

-- the turn is one of the five calls on scheme b and a network, and leaves the network so
abbrev pub CallMade : List ℕ → List ℕ → Turn → List ℕ → Type 0
CallMade b net t after = CallOf b net t.request t.answer t.written after
