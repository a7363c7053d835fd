-- A call of a request, by what a caller learns from the contracts of five functions, whosever they are.
use Rattle.std.specs.Prelude.{ℕ, ◌≡◌, List, []}
use contract.Lifetimes.{Lfts}
use borrow.Fn.World.{ArgsD}
use Rattle.std.specs.Borrow.{Bor, MutBor}
use denote.Triple.Clauses.{AtExit, at_exit}
use Rattle.model.specs.Requests.{Request, event, set_policy, find, list, view}
use Rattle.changes.specs.contracts.event as event-contract
use Rattle.requests.specs.contracts.find as find-contract
use Rattle.requests.specs.contracts.view as view-contract

-- the functions by their parameters and the number answered: a network to change and three numbers; one to read, and two or three
abbrev pub Changing : Type 1
Changing = (κs : Lfts 2) → ArgsD event-contract.signature κs → ℕ → AtExit event-contract.ended κs → Type 0

abbrev pub Finding : Type 1
Finding = (κs : Lfts 2) → ArgsD find-contract.signature κs → ℕ → AtExit find-contract.ended κs → Type 0

abbrev pub Viewing : Type 1
Viewing = (κs : Lfts 2) → ArgsD view-contract.signature κs → ℕ → AtExit view-contract.ended κs → Type 0

-- a list, between scheme, network, v, u, the places lent, answer, list written and network after
abbrev pub Listing : Type 1
Listing = List ℕ → List ℕ → ℕ → ℕ → ℕ → ℕ → List ℕ → List ℕ → Type 0

-- what a caller learns who lends references to a scheme and to a network, to change it or to read it
module _ (κs : Lfts 2) (scheme : Bor (List ℕ)) (network : MutBor (List ℕ)) where
  abbrev pub Changed : Changing → ℕ → ℕ → ℕ → ℕ → List ℕ → Type 0
  Changed Learnt x y z k after =
      Learnt κs (scheme, (network, (x, (y, (z, tt))))) k
      (at_exit event-contract.ended κs (scheme, (network, (x, (y, (z, tt))))) (tt, (after, (tt, (tt, (tt, tt))))))

module _ (κs : Lfts 2) (scheme network : Bor (List ℕ)) where
  abbrev pub Found : Finding → ℕ → ℕ → ℕ → List ℕ → Type 0
  Found Learnt v u k after =
      (after ≡ (at_exit find-contract.ended κs (scheme, (network, (v, (u, tt)))) (tt, (tt, (tt, (tt, tt))))).1.0.now)
      × Learnt κs (scheme, (network, (v, (u, tt)))) k
      (at_exit find-contract.ended κs (scheme, (network, (v, (u, tt)))) (tt, (tt, (tt, (tt, tt)))))

  abbrev pub Viewed : Viewing → ℕ → ℕ → ℕ → ℕ → List ℕ → Type 0
  Viewed Learnt v u o k after =
      (after ≡ (at_exit view-contract.ended κs (scheme, (network, (v, (u, (o, tt))))) (tt, (tt, (tt, (tt, (tt, tt)))))).1.0.now)
      × Learnt κs (scheme, (network, (v, (u, (o, tt))))) k
      (at_exit view-contract.ended κs (scheme, (network, (v, (u, (o, tt))))) (tt, (tt, (tt, (tt, (tt, tt))))))

-- some lifetimes, some references to the bytes before, the network's of one kind, and what is learnt of them
abbrev pub Lent : (Network : Type 0) → (Network → List ℕ) → List ℕ → List ℕ → (Lfts 2 → Bor (List ℕ) → Network → Type 0) → Type 0
Lent Network bytes b net Learnt =
    (κs : Lfts 2)
    × (scheme : Bor (List ℕ))
    × (network : Network)
    × (scheme.now ≡ b)
    × (bytes network ≡ net)
    × Learnt κs scheme network

-- a network lent to be changed, and one lent to be read
abbrev pub LentToChange : List ℕ → List ℕ → (Lfts 2 → Bor (List ℕ) → MutBor (List ℕ) → Type 0) → Type 0
LentToChange = Lent (MutBor (List ℕ)) (λ network. network.now)

abbrev pub LentToRead : List ℕ → List ℕ → (Lfts 2 → Bor (List ℕ) → Bor (List ℕ) → Type 0) → Type 0
LentToRead = Lent (Bor (List ℕ)) (λ network. network.now)

module _ (Event Set : Changing) (Find : Finding) (View : Viewing) (Lists : Listing) where
  -- one call: scheme and network, the request, its answer, the list written and the network after
  abbrev pub OneOfFive : List ℕ → List ℕ → Request → ℕ → List ℕ → List ℕ → Type 0
  OneOfFive b net (event v u a) answer written after =
      LentToChange b net (λ κs scheme network. (written ≡ []) × Changed κs scheme network Event v u a answer after)
  OneOfFive b net (set_policy u r p) answer written after =
      LentToChange b net (λ κs scheme network. (written ≡ []) × Changed κs scheme network Set u r p answer after)
  OneOfFive b net (find v u) answer written after =
      LentToRead b net (λ κs scheme network. (written ≡ []) × Found κs scheme network Find v u answer after)
  OneOfFive b net (list v u places) answer written after = Lists b net v u places answer written after
  OneOfFive b net (view v u o) answer written after =
      LentToRead b net (λ κs scheme network. (written ≡ []) × Viewed κs scheme network View v u o answer after)
