-- The computed answer of a request is its answer, where the walk came to its end.
use Prim.Native.Nat.{ℕ, ◌+◌, ◌<◌}
use mathlib.Core.Path.{◌≡◌, refl, sym}
use mathlib.Core.Bool.{Bool, true, false, ◌&&◌, cond}
use mathlib.Core.List.{List, [], ◌∷◌}
use mathlib.Core.Logic.{inl, inr}
use lib.Dec.{ltb}
use Rattle.model.specs.Answers.{Requirement, Answers}
use Rattle.model.specs.Bytes.{bit}
use Rattle.model.specs.Decides.{Decides}
use Rattle.model.specs.Finding.{World, Allows}
use Rattle.model.specs.Scheme.{Scheme, resources}
use Rattle.model.specs.Network.{Maps, world, state_of}
use Rattle.model.specs.Requests.{Request, event, set_policy, find, list, view, next, needs}
use Rattle.model.specs.Suggestions.{suggest_needs}
use Rattle.model.proofs.Computing.{sure, allows, Test, first, tests, suggest_tests, asks}
use Rattle.model.proofs.Deciding.{Says, decided, is_true, is_eq, is_lt, is_le, conj, negated, is_admitted, Inside}
use Rattle.model.proofs.Walking.{is_found}

pub world_inside : (c : Scheme) (s : Maps) → Inside (world c s).graph
world_inside c s u m e =
    ((conj (conj (conj (is_lt u c.members) (is_lt m c.members)) (negated (is_eq u m))) (is_true (c.friendly (state_of s u m)))).yes_if e).0.0.1

-- each test says whether its requirement is met
abbrev Tested : List Requirement → List Test → Type 0
Tested [] [] = Unit {0}
Tested [] (t ∷ ts) = ⊥
Tested (r ∷ rs) [] = ⊥
Tested ((k, M) ∷ rs) ((k', b) ∷ ts) = (k ≡ k') × Says b M × Tested rs ts

first_answers : (rs : List Requirement) (ts : List Test) → Tested rs ts → Answers rs (first ts)
unfolding first
first_answers [] [] t = refl
first_answers [] (y ∷ ts) t = absurd t
first_answers (x ∷ rs) [] t = absurd t
first_answers ((k, M) ∷ rs) ((k', b) ∷ ts) (e, d, t) = go b (decided d) (first_answers rs ts t)
  where
    go : (x : Bool) → Decides x M → Answers rs (first ts) → Answers ((k, M) ∷ rs) (cond x (first ts) k')
    go true m a = inr (m, a)
    go false n a = inl (n, sym e)

module _ (c : Scheme) (s : Maps) where
  is_allowed : (u r v : ℕ) → Says (allows (world c s) u r v) (Allows (world c s) u r v)
  unfolding allows
  is_allowed u r v = is_admitted (world c s).graph (world_inside c s) ((world c s).setting u r) u v

  members_in : (v u : ℕ) → Says (ltb v c.members && ltb u c.members) ((v < c.members) × (u < c.members))
  members_in v u = conj (is_lt v c.members) (is_lt u c.members)

  tested : (q : Request) → sure (world c s) (asks q) ≡ true → Tested (needs c s q) (tests c s q)
  tested (event v u a) e = (
    refl,
    members_in v u,
    (
      refl,
      is_lt a c.primitives,
      (
        refl,
        negated (is_eq v u),
        (
          refl,
          is_found (world c s) (world_inside c s) v e u,
          (refl, negated (is_eq (next c s v u a) 255), (refl, is_allowed u (2 + a) v, tt)),
        ),
      ),
    ),
  )
  tested (set_policy u r p) e = (refl, is_lt u c.members, (refl, is_lt r (resources c), (refl, is_true (bit (c.mask r) p), tt)))
  tested (find v u) e = (refl, members_in v u, (refl, is_found (world c s) (world_inside c s) v e u, tt))
  tested (list v u n) e =
      (refl, members_in v u, (refl, is_le c.members n, (refl, is_found (world c s) (world_inside c s) v e u, (refl, is_allowed u 1 v, tt))))
  tested (view v u o) e =
      (refl, members_in v u, (refl, is_lt o c.items, (refl, is_found (world c s) (world_inside c s) v e u, (refl, is_allowed u (2 + c.primitives + o) v, tt))))

  pub judged : (q : Request) → sure (world c s) (asks q) ≡ true → Answers (needs c s q) (first (tests c s q))
  judged q e = first_answers (needs c s q) (tests c s q) (tested q e)

pub suggest_judged : (w : World) (v c places : ℕ) → Answers (suggest_needs w v c places) (first (suggest_tests w v c places))
suggest_judged w v c places =
    first_answers (suggest_needs w v c places) (suggest_tests w v c places)
    (refl, is_lt v w.graph.members, (refl, is_le c places, tt))
