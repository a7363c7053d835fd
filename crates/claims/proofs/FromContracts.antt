-- Five functions of which a caller learns no less than the model says are the model's calls.
use Prim.Native.Nat.{ℕ}
use mathlib.Core.Path.{refl}
use mathlib.Core.List.{List, []}
use contract.Lifetimes.{Lfts}
use Rattle.std.specs.Borrow.{Bor, MutBor}
use denote.Triple.Clauses.{at_exit}
use Rattle.model.specs.Requests.{Request, event, set_policy, find, list, view, Turn, answered}
use Rattle.model.specs.Calls.{Called}
use Rattle.requests.specs.contracts.find as find-contract
use Rattle.requests.specs.contracts.view as view-contract
use Rattle.claims.specs.FiveCalls.{Changing, Finding, Viewing, Listing, Changed, Found, Viewed, OneOfFive}

abbrev turn : Request → ℕ → List ℕ → Turn
turn q answer written = record { request = q; answer = answer; written = written }

-- what is learnt of the call of q with answer k is what the model says of it
abbrev Says : (Network : Type 0) → (Network → List ℕ) → (Lfts 2 → Bor (List ℕ) → Network → List ℕ → Type 0) → Request → ℕ → Type 0
Says Network bytes Learnt q k =
    (κs : Lfts 2) (scheme : Bor (List ℕ)) (network : Network) (after : List ℕ)
    → Learnt κs scheme network after
    → Called scheme.now (bytes network) (answered q k) after

abbrev pub SaysOfChange : (Lfts 2 → Bor (List ℕ) → MutBor (List ℕ) → List ℕ → Type 0) → Request → ℕ → Type 0
SaysOfChange = Says (MutBor (List ℕ)) (λ network. network.now)

abbrev pub SaysOfRead : (Lfts 2 → Bor (List ℕ) → Bor (List ℕ) → List ℕ → Type 0) → Request → ℕ → Type 0
SaysOfRead = Says (Bor (List ℕ)) (λ network. network.now)

module _ (Event Set : Changing) (Find : Finding) (View : Viewing) (Lists : Listing) where
  module _
      (event-says : (v u a k : ℕ) → SaysOfChange (λ κs scheme network after. Changed κs scheme network Event v u a k after) (event v u a) k)
      (set_says : (u r p k : ℕ) → SaysOfChange (λ κs scheme network after. Changed κs scheme network Set u r p k after) (set_policy u r p) k)
      (find-says : (v u k : ℕ) → SaysOfRead (λ κs scheme network after. Found κs scheme network Find v u k after) (find v u) k)
      (view-says : (v u o k : ℕ) → SaysOfRead (λ κs scheme network after. Viewed κs scheme network View v u o k after) (view v u o) k)
      (list_says : (b net : List ℕ) (v u places answer : ℕ) (written after : List ℕ) → Lists b net v u places answer written after → Called b net (turn (list v u places) answer written) after) where
    pub sound : (b net : List ℕ) (q : Request) (answer : ℕ) (written after : List ℕ) → OneOfFive Event Set Find View Lists b net q answer written after
        → Called b net (turn q answer written) after
    sound b net (event v u a) answer written after (κs, s, n, eb, en, (ew, h)) = rw (← eb, ← en, ew) (event-says v u a answer κs s n after h)
    sound b net (set_policy u r p) answer written after (κs, s, n, eb, en, (ew, h)) = rw (← eb, ← en, ew) (set_says u r p answer κs s n after h)
    sound b net (find v u) answer written after (κs, s, n, eb, en, (ew, h)) = rw (← eb, ← en, ew) (find-says v u answer κs s n after h)
    sound b net (list v u places) answer written after h = list_says b net v u places answer written after h
    sound b net (view v u o) answer written after (κs, s, n, eb, en, (ew, h)) = rw (← eb, ← en, ew) (view-says v u o answer κs s n after h)

  -- the other way round: whatever a caller learns is such a call
  abbrev Made : List ℕ → List ℕ → Request → ℕ → List ℕ → Type 0
  Made b net q k after = OneOfFive Event Set Find View Lists b net q k [] after

  module _ (κs : Lfts 2) (scheme : Bor (List ℕ)) (network : MutBor (List ℕ)) where
    pub event_heard : (v u a k : ℕ) (after : List ℕ) → Changed κs scheme network Event v u a k after → Made scheme.now network.now (event v u a) k after
    event_heard v u a k after h = (κs, scheme, network, refl, refl, (refl, h))

    pub set_heard : (u r p k : ℕ) (after : List ℕ) → Changed κs scheme network Set u r p k after → Made scheme.now network.now (set_policy u r p) k after
    set_heard u r p k after h = (κs, scheme, network, refl, refl, (refl, h))

  module _ (κs : Lfts 2) (scheme network : Bor (List ℕ)) where
    pub find_heard : (v u k : ℕ)
        → Find κs (scheme, (network, (v, (u, tt)))) k (at_exit find-contract.ended κs (scheme, (network, (v, (u, tt)))) (tt, (tt, (tt, (tt, tt)))))
        → Made scheme.now network.now (find v u) k network.now
    find_heard v u k h = (κs, scheme, network, refl, refl, (refl, (refl, h)))

    pub view_heard : (v u o k : ℕ)
        → View κs (scheme, (network, (v, (u, (o, tt))))) k (at_exit view-contract.ended κs (scheme, (network, (v, (u, (o, tt))))) (tt, (tt, (tt, (tt, (tt, tt))))))
        → Made scheme.now network.now (view v u o) k network.now
    view_heard v u o k h = (κs, scheme, network, refl, refl, (refl, (refl, h)))
