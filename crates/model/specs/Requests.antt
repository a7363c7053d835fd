-- The five requests, judged on a network's two maps (docs/reference.md, "The calls").
use Rattle.std.specs.Prelude.{ℕ, zero, suc, ◌+◌, ◌<◌, ◌≤◌, min, max, ◌≡◌, Bool, true, ◌&&◌, cond, List, [], ◌∷◌, ◌++◌, eqb}
use Rattle.model.specs.Answers.{Requirement}
use Rattle.model.specs.Bytes.{bit}
use Rattle.model.specs.Finding.{World, Finds, Allows}
use Rattle.model.specs.Scheme.{Scheme, resources}
use Rattle.model.specs.Network.{Maps, side, world}

pub data Request : Type 0 where
  -- v uses primitive a towards u
  event : (v u a : ℕ) → Request
  -- u chooses policy p for resource r
  set_policy : (u r p : ℕ) → Request
  find : (v u : ℕ) → Request
  -- v asks for u's friends, with the number of places of the lent output
  list : (v u places : ℕ) → Request
  -- v asks for item o of u
  view : (v u o : ℕ) → Request

-- the next state for (q, side of v, a), q that of the pair
abbrev pub next : Scheme → Maps → ℕ → ℕ → ℕ → ℕ
next c s v u a = c.move (s.pair (min v u) (max v u)) (side v u) a

abbrev pub Defined : ℕ → Type 0
Defined q = q ≡ 255 → ⊥

-- what each request asks beyond the scheme check and 5
module _ (c : Scheme) where
  abbrev pub BothMembers : ℕ → ℕ → Type 0
  BothMembers v u = (v < c.members) × (u < c.members)

  -- a view, in any world
  abbrev pub view_needs : World → ℕ → ℕ → ℕ → List Requirement
  view_needs w v u o =
      (6, BothMembers v u)
      ∷ (7, o < c.items)
      ∷ (9, Finds w v u)
      ∷ (11, Allows w u (2 + c.primitives + o) v)
      ∷ []

  abbrev pub needs : Maps → Request → List Requirement
  needs s (event v u a) =
      (6, BothMembers v u)
      ∷ (7, a < c.primitives)
      ∷ (8, v ≡ u → ⊥)
      ∷ (9, Finds (world c s) v u)
      ∷ (10, Defined (next c s v u a))
      ∷ (11, Allows (world c s) u (2 + a) v)
      ∷ []
  needs s (set_policy u r p) = (6, u < c.members) ∷ (7, r < resources c) ∷ (12, bit (c.mask r) p ≡ true) ∷ []
  needs s (find v u) = (6, BothMembers v u) ∷ (9, Finds (world c s) v u) ∷ []
  needs s (list v u places) =
      (6, BothMembers v u)
      ∷ (13, c.members ≤ places)
      ∷ (9, Finds (world c s) v u)
      ∷ (11, Allows (world c s) u 1 v)
      ∷ []
  needs s (view v u o) = view_needs (world c s) v u o

-- those m below n that have f m, in rising order
unfoldable pub those : (ℕ → Bool) → ℕ → List ℕ
those f zero = []
those f (suc n) = those f n ++ cond (f n) (n ∷ []) []

-- the list that a granted request writes
abbrev pub writes : Scheme → Maps → Request → List ℕ
writes c s (event v u a) = []
writes c s (set_policy u r p) = []
writes c s (find v u) = []
writes c s (list v u places) = those ((world c s).graph.friends u) c.members
writes c s (view v u o) = []

-- the map with x at (i, j)
unfoldable pub put : (ℕ → ℕ → ℕ) → ℕ → ℕ → ℕ → ℕ → ℕ → ℕ
put f i j x k l = cond (eqb k i && eqb l j) x (f k l)

-- what a granted request does to the maps
abbrev pub does : Scheme → Maps → Request → Maps
does c s (event v u a) = record { pair = put s.pair (min v u) (max v u) (next c s v u a); setting = s.setting }
does c s (set_policy u r p) = record { pair = s.pair; setting = put s.setting u r p }
does c s (find v u) = s
does c s (list v u places) = s
does c s (view v u o) = s

-- a request, its answer and the list written for it
pub record Turn : Type 0 where
  pub request : Request
  pub answer : ℕ
  pub written : List ℕ

-- the turn of a call that writes no list
abbrev pub answered : Request → ℕ → Turn
answered q k = record { request = q; answer = k; written = [] }

-- the first where the answer is a grant, else the second
abbrev pub granted {ℓ} : {A : Type ℓ} → ℕ → A → A → A
granted zero x y = x
granted (suc k) x y = y
