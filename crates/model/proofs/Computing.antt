-- The rules as functions that compute (proofs/Deciding.antt and proofs/Walking.antt show that they compute the rules).
use Prim.Native.Nat.{ℕ, zero, suc, ◌+◌}
use mathlib.Core.Bool.{Bool, true, false, ◌&&◌, ◌||◌, not, cond}
use mathlib.Core.List.{List, [], ◌∷◌}
use lib.Dec.{eqb, leb, ltb}
use Rattle.model.specs.Bytes.{bit}
use Rattle.model.specs.Graph.{Graph, Degree, friendships, none, shared}
use Rattle.model.specs.Policies.{Policy, no_one, everyone, owner_only, within, known, clique, state, both, either}
use Rattle.model.specs.Policies.{Side, any_side, owner_lesser, owner_greater}
use Rattle.model.specs.Finding.{Paths, World, paths}
use Rattle.model.specs.Scheme.{Scheme, resources}
use Rattle.model.specs.Network.{Maps, world}
use Rattle.model.specs.Requests.{Request, event, set_policy, find, list, view, next, those, writes, Turn, granted}

-- some m below n has f m
unfoldable pub some : (ℕ → Bool) → ℕ → Bool
some f zero = false
some f (suc n) = some f n || f n

-- each m below n has f m
unfoldable pub every : (ℕ → Bool) → ℕ → Bool
every f zero = true
every f (suc n) = every f n && f n

unfoldable pub among : ℕ → List ℕ → Bool
among x [] = false
among x (y ∷ l) = eqb x y || among x l

unfoldable pub is_within : Graph → ℕ → ℕ → ℕ → Bool
is_within g zero u v = eqb u v
is_within g (suc k) u v = eqb u v || some (λ m. g.friends u m && is_within g k m v) g.members

unfoldable pub has_degree : Graph → ℕ → ℕ → Degree → Bool
has_degree g u v (friendships zero) = is_within g zero u v
has_degree g u v (friendships (suc d)) = is_within g (suc d) u v && not (is_within g d u v)
has_degree g u v none = ltb u g.members && not (is_within g g.members u v)

unfoldable pub friend_of_all : Graph → ℕ → List ℕ → Bool
friend_of_all g x [] = true
friend_of_all g x (y ∷ l) = not (eqb x y) && (g.friends x y && friend_of_all g x l)

unfoldable pub all_friends : Graph → List ℕ → Bool
all_friends g [] = true
all_friends g (x ∷ l) = ltb x g.members && (friend_of_all g x l && all_friends g l)

-- some list of k members has f
unfoldable pub some_list : ℕ → ℕ → (List ℕ → Bool) → Bool
some_list n zero f = f []
some_list n (suc k) f = some (λ x. some_list n k (λ l. f (x ∷ l))) n

unfoldable pub is_clique : Graph → ℕ → ℕ → ℕ → Bool
is_clique g k u v = some_list g.members k (λ l. all_friends g l && (among u l && among v l))

unfoldable pub on_side : Side → ℕ → ℕ → Bool
on_side any_side u v = true
on_side owner_lesser u v = ltb u v
on_side owner_greater u v = ltb v u

unfoldable pub admits : Graph → Policy → ℕ → ℕ → Bool
admits g no_one u v = false
admits g everyone u v = true
admits g owner_only u v = eqb u v
admits g (within k) u v = is_within g k u v
admits g (known k) u v = eqb u v || (g.friends u v || leb k (shared g u v))
admits g (clique k) u v = eqb u v || is_clique g k u v
admits g (state bits side) u v = g.in_set bits u v && on_side side u v
admits g (both p q) u v = admits g p u v && admits g q u v
admits g (either p q) u v = admits g p u v || admits g q u v

module _ (p : Paths) (v : ℕ) where
  unfoldable pub stands : ℕ → Bool
  stands m = ltb m p.graph.members

  unfoldable pub begins : ℕ → Bool
  begins m = stands m && (eqb m v || (p.graph.friends v m || admits p.graph (p.search m) m v))

  -- from m a chain goes on to x
  unfoldable pub goes : ℕ → ℕ → Bool
  goes m x = stands x && (p.graph.friends m x && admits p.graph (p.traversal m) m v)

  -- the members that chains of at most k steps end in
  unfoldable pub reached : ℕ → List ℕ
  reached zero = those begins p.graph.members
  reached (suc k) =
      let l = reached k in
      those (λ x. among x l || some (λ m. among m l && goes m x) p.graph.members) p.graph.members

  -- the list holds every member at which a chain begins, and to whom one goes on
  unfoldable pub closed : List ℕ → Bool
  closed l =
      every
      (λ m. (not (begins m) || among m l) && (not (among m l) || every (λ x. not (goes m x) || among x l) p.graph.members))
      p.graph.members

module _ (w : World) (v : ℕ) where
  unfoldable pub found : List ℕ
  found = reached (paths w) v w.graph.members

  unfoldable pub sure : Bool
  sure = closed (paths w) v found

unfoldable pub finds : World → ℕ → ℕ → Bool
finds w v u = among u (found w v)

unfoldable pub allows : World → ℕ → ℕ → ℕ → Bool
allows w u r v = admits w.graph (w.setting u r) u v

abbrev pub Test : Type 0
Test = ℕ × Bool

-- the number of the first test that fails; 0 where none does
unfoldable pub first : List Test → ℕ
first [] = 0
first ((k, b) ∷ l) = cond b (first l) k

abbrev pub tests : Scheme → Maps → Request → List Test
tests c s (event v u a) =
    (6, ltb v c.members && ltb u c.members)
    ∷ (7, ltb a c.primitives)
    ∷ (8, not (eqb v u))
    ∷ (9, finds (world c s) v u)
    ∷ (10, not (eqb (next c s v u a) 255))
    ∷ (11, allows (world c s) u (2 + a) v)
    ∷ []
tests c s (set_policy u r p) = (6, ltb u c.members) ∷ (7, ltb r (resources c)) ∷ (12, bit (c.mask r) p) ∷ []
tests c s (find v u) = (6, ltb v c.members && ltb u c.members) ∷ (9, finds (world c s) v u) ∷ []
tests c s (list v u places) =
    (6, ltb v c.members && ltb u c.members)
    ∷ (13, leb c.members places)
    ∷ (9, finds (world c s) v u)
    ∷ (11, allows (world c s) u 1 v)
    ∷ []
tests c s (view v u o) =
    (6, ltb v c.members && ltb u c.members)
    ∷ (7, ltb o c.items)
    ∷ (9, finds (world c s) v u)
    ∷ (11, allows (world c s) u (2 + c.primitives + o) v)
    ∷ []

abbrev pub suggest_tests : World → ℕ → ℕ → ℕ → List Test
suggest_tests w v c places = (6, ltb v w.graph.members) ∷ (13, leb c places) ∷ []

unfoldable pub turn : Scheme → Maps → Request → Turn
turn c s q =
    let k = first (tests c s q) in
    record { request = q; answer = k; written = granted k (writes c s q) [] }

-- the member that asks
abbrev pub asks : Request → ℕ
asks (event v u a) = v
asks (set_policy u r p) = u
asks (find v u) = v
asks (list v u places) = v
asks (view v u o) = v
