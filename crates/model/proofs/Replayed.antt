-- The maps after a run are those that the granted requests tell.
use Prim.Native.Nat.{ℕ, zero, suc, ◌+◌, ◌<◌, min, max}
use mathlib.Core.Path.{◌≡◌, refl, ◌∙◌}
use mathlib.Core.Bool.{Bool, true, false, ◌&&◌, cond}
use mathlib.Core.List.{List, [], ◌∷◌, ◌++◌}
use mathlib.Core.Logic.{inl, inr, ◌↔◌}
use lib.Dec.{eqb}
use native.Mathlib.Omega.{arith}
use Rattle.model.specs.Answers.{Answers}
use Rattle.model.specs.Finding.{Finds, Allows}
use Rattle.model.specs.Scheme.{Scheme}
use Rattle.model.specs.Network.{Maps, side, world}
use Rattle.model.specs.Requests.{Request, event, set_policy, find, list, view, next, put, does, view_needs, Turn, granted}
use Rattle.model.specs.Machine.{Judged, after, after_all}
use Rattle.model.specs.History.{move_of, choice_of, moves, choices, run, last, replayed}
use Rattle.model.proofs.Answering.{answers_unique}
use Rattle.model.proofs.Held.{at_place, maps_path}

-- one granted event, at the pair i j
moved : (c : Scheme) (s : Maps) (v u a i j : ℕ) (l : List (ℕ × ℕ)) (t : Bool) → eqb i (min v u) && eqb j (max v u) ≡ t
    → run c (cond t (next c s v u a) (s.pair i j)) l ≡ run c (s.pair i j) (cond t ((side v u, a) ∷ []) [] ++ l)
moved c s v u a i j l false e = refl
moved c s v u a i j l true e =
    let (p, q) = (at_place (min v u) (max v u) i j).yes_if e in
    rw (p, q) refl

chosen : (d p : ℕ) (l : List ℕ) (t : Bool) → last (cond t p d) l ≡ last d (cond t (p ∷ []) [] ++ l)
chosen d p l false = refl
chosen d p l true = refl

pair_replayed : (c : Scheme) (s : Maps) (q : Request) (k : ℕ) (i j : ℕ) (l : List (ℕ × ℕ))
    → run c ((granted k (does c s q) s).pair i j) l ≡ run c (s.pair i j) (granted k (move_of i j q) [] ++ l)
unfolding put
pair_replayed c s q (suc k) i j l = refl
pair_replayed c s (event v u a) zero i j l = moved c s v u a i j l (eqb i (min v u) && eqb j (max v u)) refl
pair_replayed c s (set_policy u r p) zero i j l = refl
pair_replayed c s (find v u) zero i j l = refl
pair_replayed c s (list v u n) zero i j l = refl
pair_replayed c s (view v u o) zero i j l = refl

setting_replayed : (c : Scheme) (s : Maps) (q : Request) (k : ℕ) (m r : ℕ) (l : List ℕ)
    → last ((granted k (does c s q) s).setting m r) l ≡ last (s.setting m r) (granted k (choice_of m r q) [] ++ l)
unfolding put
setting_replayed c s q (suc k) m r l = refl
setting_replayed c s (event v u a) zero m r l = refl
setting_replayed c s (set_policy u t p) zero m r l = chosen (s.setting m r) p l (eqb m u && eqb r t)
setting_replayed c s (find v u) zero m r l = refl
setting_replayed c s (list v u n) zero m r l = refl
setting_replayed c s (view v u o) zero m r l = refl

pub pair_run : (c : Scheme) (s : Maps) (ts : List Turn) (i j : ℕ) → (after_all c s ts).pair i j ≡ run c (s.pair i j) (moves i j ts)
pair_run c s [] i j = refl
pair_run c s (t ∷ ts) i j = pair_run c (after c s t) ts i j ∙ pair_replayed c s t.request t.answer i j (moves i j ts)

pub setting_last : (c : Scheme) (s : Maps) (ts : List Turn) (m r : ℕ) → (after_all c s ts).setting m r ≡ last (s.setting m r) (choices m r ts)
setting_last c s [] m r = refl
setting_last c s (t ∷ ts) m r = setting_last c (after c s t) ts m r ∙ setting_replayed c s t.request t.answer m r (choices m r ts)

pub all_replayed : (c : Scheme) (s : Maps) (ts : List Turn) → after_all c s ts ≡ replayed c s ts
all_replayed c s ts = maps_path (after_all c s ts) (replayed c s ts) (pair_run c s ts) (setting_last c s ts)

-- a view asked next: the maps are those that are replayed, so the rules read them
pub view_next : (c : Scheme) (first : Maps) (ts : List Turn) (v u o answer : ℕ) → v < c.members → u < c.members → o < c.items → (wrote : List ℕ)
    → Judged c (after_all c first ts) (record { request = view v u o; answer = answer; written = wrote })
    → (answer ≡ 0) ↔ (Finds (world c (replayed c first ts)) v u × Allows (world c (replayed c first ts)) u (2 + c.primitives + o) v)
view_next c first ts v u o answer bv bu bo wrote j = (granted_if, granted_only)
  where
    s : Maps
    s = after_all c first ts

    there : s ≡ replayed c first ts
    there = all_replayed c first ts

    granted_if : answer ≡ 0 → Finds (world c (replayed c first ts)) v u × Allows (world c (replayed c first ts)) u (2 + c.primitives + o) v
    granted_if z = rw there at (go j.answered)
      where
        go : Answers (view_needs c (world c s) v u o) answer → Finds (world c s) v u × Allows (world c s) u (2 + c.primitives + o) v
        go (inl (n, e)) = absurd (omega arith)
        go (inr (m, inl (n, e))) = absurd (omega arith)
        go (inr (m, inr (k, inl (n, e)))) = absurd (omega arith)
        go (inr (m, inr (k, inr (f, inl (n, e))))) = absurd (omega arith)
        go (inr (m, inr (k, inr (f, inr (a, e))))) = (f, a)

    granted_only : Finds (world c (replayed c first ts)) v u × Allows (world c (replayed c first ts)) u (2 + c.primitives + o) v → answer ≡ 0
    granted_only h =
        let (f, a) = back in
        answers_unique (view_needs c (world c s) v u o) answer 0 j.answered (inr ((bv, bu), inr (bo, inr (f, inr (a, refl)))))
      where
        back : Finds (world c s) v u × Allows (world c s) u (2 + c.primitives + o) v
        back = rw there h
