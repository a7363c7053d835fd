-- A pair's run and the last granted settings, taken from what was granted alone (docs/reference.md, "The plain machine").
use Rattle.std.specs.Prelude.{ℕ, min, max, ◌&&◌, cond, List, [], ◌∷◌, ◌++◌, eqb}
use Rattle.model.specs.Scheme.{Scheme}
use Rattle.model.specs.Network.{Maps, side}
use Rattle.model.specs.Requests.{Request, event, set_policy, find, list, view, Turn, granted}

-- an event between members i < j: the side that acts and the primitive; nothing for every other request
abbrev pub move_of : ℕ → ℕ → Request → List (ℕ × ℕ)
move_of i j (event v u a) = cond (eqb i (min v u) && eqb j (max v u)) ((side v u, a) ∷ []) []
move_of i j (set_policy u r p) = []
move_of i j (find v u) = []
move_of i j (list v u places) = []
move_of i j (view v u o) = []

-- the p of a set for member m and resource r
abbrev pub choice_of : ℕ → ℕ → Request → List ℕ
choice_of m r (event v u a) = []
choice_of m r (set_policy u t p) = cond (eqb m u && eqb r t) (p ∷ []) []
choice_of m r (find v u) = []
choice_of m r (list v u places) = []
choice_of m r (view v u o) = []

-- what f takes of each granted request, in order
abbrev pub of_granted : {A : Type 0} → (Request → List A) → List Turn → List A
of_granted f [] = []
of_granted f (t ∷ ts) = granted t.answer (f t.request) [] ++ of_granted f ts

-- the granted events of the pair i < j
abbrev pub moves : ℕ → ℕ → List Turn → List (ℕ × ℕ)
moves i j ts = of_granted (move_of i j) ts

-- what was granted for member m and resource r
abbrev pub choices : ℕ → ℕ → List Turn → List ℕ
choices m r ts = of_granted (choice_of m r) ts

-- the automaton's run from state q
abbrev pub run : Scheme → ℕ → List (ℕ × ℕ) → ℕ
run c q [] = q
run c q ((b, a) ∷ l) = run c (c.move q b a) l

-- the last of a list; d where it is empty
abbrev pub last : ℕ → List ℕ → ℕ
last d [] = d
last d (x ∷ l) = last x l

-- the maps that these runs and last settings make
abbrev pub replayed : Scheme → Maps → List Turn → Maps
replayed c s ts = record {
  pair = λ i j. run c (s.pair i j) (moves i j ts);
  setting = λ m r. last (s.setting m r) (choices m r ts);
}
