-- Whoever does not find u, or does not view its items, sees nothing of u's settings of items.
use Prim.Native.Nat.{ℕ, zero, suc, ◌+◌, ◌<◌}
use mathlib.Core.Path.{◌≡◌, refl, sym, ◌∙◌, ap, subst}
use mathlib.Core.Bool.{Bool, true, false, ◌&&◌, cond}
use mathlib.Core.List.{List, [], ◌∷◌}
use mathlib.Core.Logic.{◌⊎◌, inl, inr}
use native.Mathlib.Omega.{arith}
use native.Mathlib.Decide.{ℕ_discrete}
use lib.Dec.{eqb}
use Rattle.model.specs.Answers.{Answers}
use Rattle.model.specs.Graph.{Graph}
use Rattle.model.specs.Finding.{Paths, paths, Chain, Finds, Allows}
use Rattle.model.specs.Scheme.{Scheme}
use Rattle.model.specs.Network.{Maps, setting_place, Laid, world}
use Rattle.model.specs.Requests.{Request, event, set_policy, find, list, view, next, needs, writes, put, does, those, Turn, granted}
use Rattle.model.specs.Machine.{Judged, after, Runs, after_all}
use Rattle.model.specs.TwoLists.{Item, Changed, Similar, Viewed, Alike, OthersSame}
use Rattle.model.proofs.Answering.{Same, answers_same, answers_unique}
use Rattle.model.proofs.Held.{at_place, laid_same}

-- the same maps but for u's settings of items
pub record Apart (c : Scheme) (u : ℕ) (s s' : Maps) : Type 0 where
  pub pairs : s.pair ≡ s'.pair
  pub others : (m r : ℕ) → (((m ≡ u) × Item c r) → ⊥) → s.setting m r ≡ s'.setting m r

module _ (c : Scheme) (u : ℕ) where
  pub apart_refl : (s : Maps) → Apart c u s s
  apart_refl s = record { pairs = refl; others = λ m r n. refl }

  apart_sym : (s s' : Maps) → Apart c u s s' → Apart c u s' s
  apart_sym s s' a = record { pairs = sym a.pairs; others = λ m r n. sym (a.others m r n) }

  apart_trans : (s t r : Maps) → Apart c u s t → Apart c u t r → Apart c u s r
  apart_trans s t r a b = record { pairs = a.pairs ∙ b.pairs; others = λ m x n. a.others m x n ∙ b.others m x n }

  graph_same : (s s' : Maps) → Apart c u s s' → (world c s).graph ≡ (world c s').graph
  graph_same s s' a = ap (λ (q : ℕ → ℕ → ℕ). (world c (record { pair = q; setting = s.setting })).graph) a.pairs

  -- no item: the setting is the same
  policy_same : (s s' : Maps) → Apart c u s s' → (m r : ℕ) → r < 2 + c.primitives → (world c s).setting m r ≡ (world c s').setting m r
  policy_same s s' a m r b = ap c.policy (a.others m r (λ (e, i). omega arith))

  -- finding reads no item
  paths_same : (s s' : Maps) → Apart c u s s' → paths (world c s) ≡ paths (world c s')
  paths_same s s' a =
      λ i. record {
        graph = graph_same s s' a i;
        search = λ m. policy_same s s' a m 0 (omega arith) i;
        traversal = λ m. policy_same s s' a m 1 (omega arith) i;
      }

  finds_same : (s s' : Maps) → Apart c u s s' → (v w : ℕ) → Finds (world c s) v w → Finds (world c s') v w
  finds_same s s' a v w f = subst (λ (p : Paths). Chain p v w) (paths_same s s' a) f

  allows_same : (s s' : Maps) → Apart c u s s' → (w r v : ℕ) → (world c s).setting w r ≡ (world c s').setting w r → Allows (world c s) w r v → Allows (world c s') w r v
  allows_same s s' a w r v e h = rw (← e, ← graph_same s s' a) h

  defined_same : (s s' : Maps) → Apart c u s s' → (v w a : ℕ) → next c s v w a ≡ next c s' v w a
  defined_same s s' a v w k = ap (λ (q : ℕ → ℕ → ℕ). next c (record { pair = q; setting = s.setting }) v w k) a.pairs

  -- the same request of two such maps: the same answer, unless it views an item of u's
  same_needs : (s s' : Maps) → Apart c u s s' → (q : Request) → ((v o : ℕ) → q ≡ view v u o → ⊥) → Same (needs c s q) (needs c s' q)
  same_needs s s' a (event v w k) d = (
    refl,
    (λ x. x),
    (λ x. x),
    λ x. (
      refl,
      (λ x. x),
      (λ x. x),
      λ b. (
        refl,
        (λ x. x),
        (λ x. x),
        λ x. (
          refl,
          finds_same s s' a v w,
          finds_same s' s (apart_sym s s' a) v w,
          λ x. (
            refl,
            (λ n e. n (defined_same s s' a v w k ∙ e)),
            (λ n e. n (sym (defined_same s s' a v w k) ∙ e)),
            λ x.
                (refl, allows_same s s' a w (2 + k) v (policy_same s s' a w (2 + k) (omega arith)), allows_same s' s (apart_sym s s' a) w (2 + k) v (sym (policy_same s s' a w (2 + k) (omega arith))), λ x. tt),
          ),
        ),
      ),
    ),
  )
  same_needs s s' a (set_policy w r p) d =
      (refl, (λ x. x), (λ x. x), λ x. (refl, (λ x. x), (λ x. x), λ x. (refl, (λ x. x), (λ x. x), λ x. tt)))
  same_needs s s' a (find v w) d =
      (refl, (λ x. x), (λ x. x), λ x. (refl, finds_same s s' a v w, finds_same s' s (apart_sym s s' a) v w, λ x. tt))
  same_needs s s' a (list v w n) d = (
    refl,
    (λ x. x),
    (λ x. x),
    λ x. (
      refl,
      (λ x. x),
      (λ x. x),
      λ x. (
        refl,
        finds_same s s' a v w,
        finds_same s' s (apart_sym s s' a) v w,
        λ x.
            (refl, allows_same s s' a w 1 v (policy_same s s' a w 1 (omega arith)), allows_same s' s (apart_sym s s' a) w 1 v (sym (policy_same s s' a w 1 (omega arith))), λ x. tt),
      ),
    ),
  )
  same_needs s s' a (view v w o) d = (
    refl,
    (λ x. x),
    (λ x. x),
    λ x. (
      refl,
      (λ x. x),
      (λ x. x),
      λ x. (
        refl,
        finds_same s s' a v w,
        finds_same s' s (apart_sym s s' a) v w,
        λ x.
            (refl, allows_same s s' a w r v other, allows_same s' s (apart_sym s s' a) w r v (sym other), λ x. tt),
      ),
    ),
  )
    where
      r : ℕ
      r = 2 + c.primitives + o

      other : (world c s).setting w r ≡ (world c s').setting w r
      other = ap c.policy (a.others w r (λ (e, i). d v o (ap (λ (x : ℕ). view v x o) e)))

  put_same : (f f' : ℕ → ℕ → ℕ) (w r p m t : ℕ) → ((eqb m w && eqb t r ≡ false) → f m t ≡ f' m t) → put f w r p m t ≡ put f' w r p m t
  unfolding put
  put_same f f' w r p m t h = go (eqb m w && eqb t r) refl
    where
      go : (b : Bool) → eqb m w && eqb t r ≡ b → cond b p (f m t) ≡ cond b p (f' m t)
      go true e = refl
      go false e = h e

  does_apart : (s s' : Maps) → Apart c u s s' → (q : Request) → Apart c u (does c s q) (does c s' q)
  does_apart s s' a (event v w k) = record {
    pairs = ap (λ (q : ℕ → ℕ → ℕ). (does c (record { pair = q; setting = s.setting }) (event v w k)).pair) a.pairs;
    others = a.others;
  }
  does_apart s s' a (set_policy w r x) = record {
    pairs = a.pairs;
    others = λ m t n. put_same s.setting s'.setting w r x m t (λ e. a.others m t n);
  }
  does_apart s s' a (find v w) = a
  does_apart s s' a (list v w n) = a
  does_apart s s' a (view v w o) = a

  granted_apart : (k : ℕ) (s s' t t' : Maps) → Apart c u s s' → Apart c u t t' → Apart c u (granted k s t) (granted k s' t')
  granted_apart zero s s' t t' a b = a
  granted_apart (suc k) s s' t t' a b = b

  -- a set of an item of u's changes nothing else
  item_apart : (k : ℕ) (s : Maps) (r p : ℕ) → Item c r → Apart c u (granted k (does c s (set_policy u r p)) s) s
  unfolding put
  item_apart zero s r p i = record { pairs = refl; others = λ m t n. go m t n (eqb m u && eqb t r) refl }
    where
      go : (m t : ℕ) → (((m ≡ u) × Item c t) → ⊥) → (b : Bool) → eqb m u && eqb t r ≡ b → cond b p (s.setting m t) ≡ s.setting m t
      go m t n false e = refl
      go m t n true e =
          let (x, y) = (at_place u r m t).yes_if e in
          absurd (n (x, rw y i))
  item_apart (suc k) s r p i = apart_refl s

  writes_same : (s s' : Maps) → Apart c u s s' → (q : Request) → writes c s q ≡ writes c s' q
  writes_same s s' a (event v w k) = refl
  writes_same s s' a (set_policy w r p) = refl
  writes_same s s' a (find v w) = refl
  writes_same s s' a (list v w n) = ap (λ (g : Graph). those (g.friends w) c.members) (graph_same s s' a)
  writes_same s s' a (view v w o) = refl

  granted_nothing : (k : ℕ) → granted {A = List ℕ} k [] [] ≡ []
  granted_nothing zero = refl
  granted_nothing (suc k) = refl

  not_viewed : (s s' : Maps) → Apart c u s s' → (q : Request) → ((v o : ℕ) → q ≡ view v u o → ⊥)
      → (k k' : ℕ) → Answers (needs c s q) k → Answers (needs c s' q) k' → k ≡ k'
  not_viewed s s' a q d k k' = answers_same (needs c s q) (needs c s' q) k k' (same_needs s s' a q d)

  -- the same request of two such maps
  pub same_request : (s s' : Maps) → Apart c u s s' → (q : Request) (k k' : ℕ) → Answers (needs c s q) k → Answers (needs c s' q) k' → (k ≡ k') ⊎ Viewed c u s q
  same_request s s' a (event v w x) k k' j j' = inl (not_viewed s s' a (event v w x) (λ x y e. let z : ◌≡◌ {A = ℕ} 0 1 = cc in omega arith) k k' j j')
  same_request s s' a (set_policy w r p) k k' j j' = inl (not_viewed s s' a (set_policy w r p) (λ x y e. let z : ◌≡◌ {A = ℕ} 0 1 = cc in omega arith) k k' j j')
  same_request s s' a (find v w) k k' j j' = inl (not_viewed s s' a (find v w) (λ x y e. let z : ◌≡◌ {A = ℕ} 0 1 = cc in omega arith) k k' j j')
  same_request s s' a (list v w n) k k' j j' = inl (not_viewed s s' a (list v w n) (λ x y e. let z : ◌≡◌ {A = ℕ} 0 1 = cc in omega arith) k k' j j')
  same_request s s' a (view v w o) k k' j j' = go (ℕ_discrete w u) j
    where
      go : Dec (w ≡ u) → Answers (needs c s (view v w o)) k → (k ≡ k') ⊎ Viewed c u s (view v w o)
      go (no n) i = inl (not_viewed s s' a (view v w o) (λ x y e. n cc) k k' j j')
      go (yes e) (inl i) = inl (answers_unique (needs c s' (view v w o)) k k' (inl i) j')
      go (yes e) (inr (i, inl h)) = inl (answers_unique (needs c s' (view v w o)) k k' (inr (i, inl h)) j')
      go (yes e) (inr (i, inr (h, inl (n, z)))) =
          inl (answers_unique (needs c s' (view v w o)) k k' (inr (i, inr (h, inl (λ f. n (finds_same s' s (apart_sym s s' a) v w f), z)))) j')
      go (yes e) (inr (i, inr (h, inr (f, l)))) = inr (v, o, omega (arith, i.0), h, ap (λ (x : ℕ). view v x o) e, rw (← e) f)

  -- a request that writes nothing
  nothing : (s : Maps) (t : Turn) → writes c s t.request ≡ [] → Judged c s t → t.written ≡ []
  nothing s t e j = j.wrote ∙ ap (λ (l : List ℕ). granted t.answer l []) e ∙ granted_nothing t.answer

  -- a request that does nothing
  unmoved : (s : Maps) (t : Turn) → does c s t.request ≡ s → after c s t ≡ s
  unmoved s t e = ap (λ (x : Maps). granted t.answer x s) e ∙ go t.answer
    where
      go : (k : ℕ) → granted k s s ≡ s
      go zero = refl
      go (suc k) = refl

  Fine : Maps → Maps → Turn → Turn → Type 0
  Fine s s' t t' =
      ((t.answer ≡ t'.answer) ⊎ (Changed c u t.request t'.request ⊎ Viewed c u s t.request))
      × (t.written ≡ t'.written)
      × Apart c u (after c s t) (after c s' t')

  turn_alike : (s s' : Maps) → Apart c u s s' → (t t' : Turn) → (t.request ≡ t'.request) ⊎ Changed c u t.request t'.request
      → Judged c s t → Judged c s' t' → Fine s s' t t'
  unfolding Fine
  turn_alike s s' a t t' (inl e) j j' =
      go (same_request s s' a t.request t.answer t'.answer j.answered (rw e j'.answered))
    where
      go : (t.answer ≡ t'.answer) ⊎ Viewed c u s t.request → Fine s s' t t'
      go (inl k) = (
        inl k,
        j.wrote ∙ rw (k, writes_same s s' a t.request, e) (sym j'.wrote),
        rw (k, e) (granted_apart t'.answer _ _ _ _ (does_apart s s' a t'.request) a),
      )
      go (inr (v, o, m, b, q, f)) = (
        inr (inr (v, o, m, b, q, f)),
        nothing s t (ap (writes c s) q) j ∙ sym (nothing s' t' (ap (writes c s') (sym e ∙ q)) j'),
        rw (unmoved s t (ap (does c s) q), unmoved s' t' (ap (does c s') (sym e ∙ q))) a,
      )
  turn_alike s s' a t t' (inr (r, p, p', i, n, e, e')) j j' = (
    inr (inl (r, p, p', i, n, e, e')),
    nothing s t (ap (writes c s) e) j ∙ sym (nothing s' t' (ap (writes c s') e') j'),
    rw (e, e') (apart_trans _ _ _ (item_apart t.answer s r p i) (apart_trans _ _ _ a (apart_sym _ _ (item_apart t'.answer s' r p' i)))),
  )

  pub unseen : (s s' : Maps) → Apart c u s s' → (ts ts' : List Turn) → Runs c s ts → Runs c s' ts' → Similar c u ts ts'
      → Alike c u s ts ts' × Apart c u (after_all c s ts) (after_all c s' ts')
  unfolding Fine
  unseen s s' a [] [] r r' q = (tt, a)
  unseen s s' a [] (t' ∷ ts') r r' q = absurd q
  unseen s s' a (t ∷ ts) [] r r' q = absurd q
  unseen s s' a (t ∷ ts) (t' ∷ ts') (j, r) (j', r') (e, q) =
      let (x, y, z) = turn_alike s s' a t t' e j j' in
      let (l, d) = unseen (after c s t) (after c s' t') z ts ts' r r' q in
      ((x, y, l), d)

-- the bytes that such maps are laid out as
pub laid_apart : (c : Scheme) (u : ℕ) (s s' : Maps) (net net' : List ℕ) → Apart c u s s' → Laid c s net → Laid c s' net' → OthersSame c u net net'
laid_apart c u s s' net net' a l l' k n =
    laid_same c s s' net net' l l' a.pairs k (λ m r e. a.others m r (λ (z, i). n r i (e ∙ ap (λ (x : ℕ). setting_place c x r) z)))
