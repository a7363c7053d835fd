-- What happened, by what a caller learns of each exported function from its own contract.
use Rattle.std.specs.Prelude.{ℕ, ◌≡◌, List, [], length, take}
use contract.Lifetimes.{Lfts}
use Rattle.std.specs.Borrow.{Bor, MutBor}
use denote.Triple.Clauses.{at_exit}
use Rattle.model.specs.Requests.{Turn, granted}
use borrow.Fn.World.{w₀}
use borrow.Fn.Read.{r_last}
use Rattle.claims.specs.Told.{Told}
use Rattle.claims.specs.FiveCalls.{Changing, Finding, Viewing, Listing, OneOfFive}
use Rattle.gatekeeper.specs.contracts.gatekeeper_event as event-contract
use Rattle.gatekeeper.specs.contracts.gatekeeper_set as set-contract
use Rattle.gatekeeper.specs.contracts.gatekeeper_find as find-contract
use Rattle.gatekeeper.specs.contracts.gatekeeper_list as list-contract
use Rattle.gatekeeper.specs.contracts.gatekeeper_view as view-contract

-- what a caller learns of the four that write no list
abbrev pub EventTold : Changing
EventTold κs args k exit = Told ((event-contract.clauses w₀.𝓛 w₀.𝓜.mem w₀.𝓡.returns κs args).ensures tt k exit) (r_last _)

abbrev pub SetTold : Changing
SetTold κs args k exit = Told ((set-contract.clauses w₀.𝓛 w₀.𝓜.mem w₀.𝓡.returns κs args).ensures tt k exit) (r_last _)

abbrev pub FindTold : Finding
FindTold κs args k exit = Told ((find-contract.clauses w₀.𝓛 w₀.𝓜.mem w₀.𝓡.returns κs args).ensures tt k exit) (r_last _)

abbrev pub ViewTold : Viewing
ViewTold κs args k exit = Told ((view-contract.clauses w₀.𝓛 w₀.𝓜.mem w₀.𝓡.returns κs args).ensures tt k exit) (r_last _)

-- a list is lent an output and a place for the count too, and leaves them otherwise
module _ (κs : Lfts 4) (scheme network : Bor (List ℕ)) (output : MutBor (List ℕ)) (count : MutBor ℕ) where
  abbrev pub ListLearnt : ℕ → ℕ → ℕ → List ℕ → ℕ → List ℕ → Type 0
  ListLearnt v u answer left counted after =
      (after
      ≡ (at_exit list-contract.ended κs (scheme, (network, (v, (u, (output, (count, tt)))))) (tt, (tt, (tt, (tt, (left, (counted, tt))))))).1.0.now)
      × Told
      ((list-contract.clauses w₀.𝓛 w₀.𝓜.mem w₀.𝓡.returns κs (scheme, (network, (v, (u, (output, (count, tt))))))).ensures tt answer
      (at_exit list-contract.ended κs (scheme, (network, (v, (u, (output, (count, tt)))))) (tt, (tt, (tt, (tt, (left, (counted, tt))))))))
      (r_last _)

-- the members written are as many as counted on a grant, and none on a refusal
abbrev pub ListMade : Listing
ListMade b net v u places answer written after =
    (κs : Lfts 4)
    × (scheme network : Bor (List ℕ))
    × (output : MutBor (List ℕ))
    × (count : MutBor ℕ)
    × (left : List ℕ)
    × (counted : ℕ)
    × (scheme.now ≡ b)
    × (network.now ≡ net)
    × (length output.now ≡ places)
    × (written ≡ granted answer (take counted left) [])
    × ListLearnt κs scheme network output count v u answer left counted after

-- the turn is one of the five exported calls on scheme b and a network, and leaves the network so
abbrev pub ExportedCall : List ℕ → List ℕ → Turn → List ℕ → Type 0
ExportedCall b net t after =
    OneOfFive EventTold SetTold FindTold ViewTold ListMade b net t.request t.answer t.written after
