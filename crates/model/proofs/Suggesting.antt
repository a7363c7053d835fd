-- Laws of suggested contacts: the order is strict and total, and there is exactly one page.
use Prim.Native.Nat.{ℕ, zero, suc, ◌<◌, ◌≤◌}
use mathlib.Core.Path.{◌≡◌, refl, sym, ◌∙◌}
use mathlib.Core.Bool.{Bool, ◌&&◌, ◌||◌, not}
use mathlib.Core.List.{List, [], ◌∷◌}
use mathlib.Core.Logic.{◌⊎◌, inl, inr}
use native.Mathlib.Omega.{arith}
use native.Mathlib.Decide.{dec_lt}
use lib.Dec.{eqb, leb, ltb}
use Rattle.model.specs.Graph.{Friends, Within, friendships, IsDegree, shared}
use Rattle.model.specs.Finding.{World, paths, Finds}
use Rattle.model.specs.Page.{Strict, FirstOf}
use Rattle.model.specs.Suggestions.{Earlier, Suggestible, Suggestions}
use Rattle.model.proofs.Deciding.{Says, Inside, is_eq, is_lt, is_le, is_true, iff, conj, disj, negated}
use Rattle.model.proofs.Groups.{shared_some}
use Rattle.model.proofs.Paging.{Below, page_of, reordered, alike, page_unique, page_exists}
use Rattle.model.proofs.Walking.{found_member, chain_test}

-- the order as a test
unfoldable pub earlier : (ℕ → ℕ) → ℕ → ℕ → Bool
earlier shares x y = ltb (shares y) (shares x) || (eqb (shares x) (shares y) && ltb x y)

module _ (shares : ℕ → ℕ) where
  pub is_earlier : (x y : ℕ) → Says (earlier shares x y) (Earlier shares x y)
  unfolding earlier
  is_earlier x y = disj (is_lt (shares y) (shares x)) (conj (is_eq (shares x) (shares y)) (is_lt x y))

  not_itself : (x : ℕ) → Earlier shares x x → ⊥
  not_itself x (inl h) = omega arith
  not_itself x (inr (e, h)) = omega arith

  through : (x y z : ℕ) → Earlier shares x y → Earlier shares y z → Earlier shares x z
  through x y z (inl h) (inl g) = inl (omega arith)
  through x y z (inl h) (inr (e, g)) = inl (omega arith)
  through x y z (inr (e, h)) (inl g) = inl (omega arith)
  through x y z (inr (e, h)) (inr (d, g)) = inr (e ∙ d, omega arith)

  one_is : (x y : ℕ) → (x ≡ y → ⊥) → Earlier shares x y ⊎ Earlier shares y x
  one_is x y n = go (dec_lt (shares y) (shares x)) (dec_lt (shares x) (shares y)) (dec_lt x y)
    where
      go : Dec (shares y < shares x) → Dec (shares x < shares y) → Dec (x < y) → Earlier shares x y ⊎ Earlier shares y x
      go (yes h) d l = inl (inl h)
      go (no p) (yes h) l = inr (inl h)
      go (no p) (no q) (yes h) = inl (inr (omega arith, h))
      go (no p) (no q) (no r) = inr (inr (omega arith, omega arith))

  -- total and strict on different members
  pub earlier_strict : Strict (Earlier shares)
  earlier_strict = record { irreflexive = not_itself; transitive = through; total = one_is }

-- no two pages
pub suggestions_once : (w : World) (v c : ℕ) (l r : List ℕ) → Suggestions w v c l → Suggestions w v c r → l ≡ r
suggestions_once w v c l r = page_unique (earlier_strict (shared w.graph v)) c l r

-- who may be suggested, by a test of who is found
abbrev pub suggestible : World → ℕ → (ℕ → Bool) → ℕ → Bool
suggestible w v found m = found m && (not (eqb m v) && (not (w.graph.friends v m) && leb 1 (shared w.graph v m)))

module _ (w : World) (v : ℕ) {found : ℕ → Bool} (is_found : (m : ℕ) → Says (found m) (Finds w v m)) where
  is_suggestible : (m : ℕ) → Says (suggestible w v found m) (Suggestible w v m)
  is_suggestible m =
      iff (λ (f, (o, (n, s))). record { found = f; other = o; no_friend = n; sharing = s })
      (λ s. (s.found, (s.other, (s.no_friend, s.sharing))))
      (conj (is_found m) (conj (negated (is_eq m v)) (conj (negated (is_true (w.graph.friends v m))) (is_le 1 (shared w.graph v m)))))

  -- the page, computed
  pub suggestions_computed : (c : ℕ) → Suggestions w v c (page_of (earlier (shared w.graph v)) (suggestible w v found) w.graph.members c)
  suggestions_computed c =
      alike (earlier_strict (shared w.graph v)) (λ m (b, s). s) (λ m s. (found_member w v m s.found, s))
      (page_exists (earlier_strict (shared w.graph v)) (is_earlier (shared w.graph v)) is_suggestible w.graph.members c)

-- there is one
pub suggestions_exist : (w : World) → Inside w.graph → (v c : ℕ) → (l : List ℕ) × Suggestions w v c l
suggestions_exist w inside v c =
    let (found, is_found) = chain_test (paths w) inside v in
    (_, suggestions_computed w v is_found c)

-- who may be suggested is two friendships off
module _ (w : World) (both : (x y : ℕ) → w.graph.friends x y ≡ w.graph.friends y x) {v m : ℕ} where
  pub suggestible_near : Suggestible w v m → Within w.graph 2 m v
  suggestible_near s =
      let (x, b, p, q, n) = shared_some w.graph v m s.sharing in
      (x ∷ v ∷ [], omega arith, (q, (both x v ∙ p, refl)))

  pub suggestible_degree : Suggestible w v m → (d : ℕ) → IsDegree w.graph m v (friendships d) → d ≡ 2
  suggestible_degree s zero (([], b, e), low) = absurd (s.other e)
  suggestible_degree s zero ((x ∷ l, b, o), low) = absurd (omega arith)
  suggestible_degree s (suc zero) (([], b, e), low) = absurd (s.other e)
  suggestible_degree s (suc zero) ((x ∷ [], b, (f, e)), low) = absurd (s.no_friend (both v m ∙ rw e at f))
  suggestible_degree s (suc zero) ((x ∷ y ∷ l, b, o), low) = absurd (omega arith)
  suggestible_degree s (suc (suc d)) (near, low) = omega (arith, low 2 (suggestible_near s))

  -- and is neither v nor a friend
  pub apart : IsDegree w.graph m v (friendships 2) → (m ≡ v → ⊥) × (Friends w.graph v m → ⊥)
  apart (near, low) = (λ e. omega (arith, low 0 ([], omega arith, e)), λ f. omega (arith, low 1 (v ∷ [], omega arith, (both m v ∙ f, refl))))

-- a page of ranked members, in the order of their ranks, is the page of suggestions where the ranks are the shared friends of
-- those that may be suggested, and 0 of all others
pub suggestions_ranked : (w : World) (v c n : ℕ) (rank : ℕ → ℕ) (l : List ℕ)
    → ((m : ℕ) → m < n → 1 ≤ rank m → Suggestible w v m)
    → ((m : ℕ) → Suggestible w v m → (m < n) × (rank m ≡ shared w.graph v m))
    → FirstOf (Earlier rank) (Below (λ m. 1 ≤ rank m) n) c l
    → Suggestions w v c l
suggestions_ranked w v c n rank l to from p =
    reordered same (alike (earlier_strict rank) (λ m (b, h). to m b h) back p)
  where
    back : (m : ℕ) → Suggestible w v m → Below (λ k. 1 ≤ rank k) n m
    back m s = let (b, e) = from m s in let h = s.sharing in (b, omega arith)

    same : (x y : ℕ) → Suggestible w v x → Suggestible w v y → Earlier rank x y → Earlier (shared w.graph v) x y
    same x y s t h = go h
      where
        d : rank x ≡ shared w.graph v x
        d = (from x s).1

        e : rank y ≡ shared w.graph v y
        e = (from y t).1

        go : Earlier rank x y → Earlier (shared w.graph v) x y
        go (inl i) = inl (omega (arith, d, e))
        go (inr (q, i)) = inr (sym d ∙ q ∙ e, i)
