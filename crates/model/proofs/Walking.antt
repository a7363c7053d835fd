-- A computed set of members that is closed under steps is exactly the set of those that are found, and there is one.
use Prim.Native.Nat.{ℕ, zero, suc, ◌<◌, ◌≤◌, zero-le}
use mathlib.Core.Path.{◌≡◌, refl}
use mathlib.Core.Bool.{Bool, true, false, ◌&&◌, ◌||◌, not, cond, true≢false, false≢true}
use mathlib.Core.List.{List, [], ◌∷◌, ◌++◌}
use mathlib.Core.Logic.{◌⊎◌, inl, inr}
use native.Mathlib.Decide.{ℕ_discrete}
use native.Mathlib.Omega.{arith}
use Rattle.model.specs.Graph.{Onward, Among, count}
use Rattle.model.specs.Finding.{Stands, Begins, Goes, Chain, Paths, World, paths, Finds}
use Rattle.model.specs.Requests.{those}
use Rattle.model.proofs.Computing.{some, every, among, stands, begins, goes, reached, closed, found, sure, finds}
use Rattle.model.proofs.Counting.{count_le, count_more}
use Rattle.model.proofs.Deciding.{Says, is_so, is_true, is_eq, is_lt, iff, conj, disj, negated, is_some, every_holds, every_fails, is_among, is_admitted, Inside}

among_append : (x : ℕ) (l r : List ℕ) → Among x (l ++ r) → Among x l ⊎ Among x r
among_append x [] r h = inr h
among_append x (y ∷ l) r (inl e) = inl (inl e)
among_append x (y ∷ l) r (inr h) = go (among_append x l r h)
  where
    go : Among x l ⊎ Among x r → Among x (y ∷ l) ⊎ Among x r
    go (inl a) = inl (inr a)
    go (inr b) = inr b

pub among_those : (f : ℕ → Bool) (n x : ℕ) → Among x (those f n) → (x < n) × (f x ≡ true)
unfolding those
among_those f zero x h = absurd h
among_those f (suc n) x h = go (among_append x (those f n) (cond (f n) (n ∷ []) []) h) (λ i. among_those f n x i)
  where
    one : (b : Bool) → f n ≡ b → Among x (cond b (n ∷ []) []) → (x < suc n) × (f x ≡ true)
    one true e (inl i) = (omega arith, rw i e)
    one true e (inr i) = absurd i
    one false e i = absurd i

    go : Among x (those f n) ⊎ Among x (cond (f n) (n ∷ []) []) → (Among x (those f n) → (x < n) × (f x ≡ true)) → (x < suc n) × (f x ≡ true)
    go (inl i) ih = let (b, e) = ih i in (omega arith, e)
    go (inr i) ih = one (f n) refl i

among_front : (x : ℕ) (l r : List ℕ) → Among x l → Among x (l ++ r)
among_front x (y ∷ l) r (inl e) = inl e
among_front x (y ∷ l) r (inr i) = inr (among_front x l r i)
among_front x [] r i = absurd i

among_back : (x : ℕ) (l r : List ℕ) → Among x r → Among x (l ++ r)
among_back x [] r i = i
among_back x (y ∷ l) r i = inr (among_back x l r i)

those_among : (f : ℕ → Bool) (n x : ℕ) → x < n → f x ≡ true → Among x (those f n)
unfolding those
those_among f zero x b e = absurd (omega arith)
those_among f (suc n) x b e = go (ℕ_discrete x n) (λ l. those_among f n x l e)
  where
    one : (t : Bool) → t ≡ true → Among n (cond t (n ∷ []) [])
    one true q = inl refl
    one false q = absurd (false≢true q)

    go : Dec (x ≡ n) → (x < n → Among x (those f n)) → Among x (those f (suc n))
    go (yes q) ih = among_back x (those f n) (cond (f n) (n ∷ []) []) (rw q (one (f n) (rw q at e)))
    go (no d) ih = among_front x (those f n) (cond (f n) (n ∷ []) []) (ih (omega arith))

-- one step more
pub further : (Step : ℕ → ℕ → Type 0) (m : ℕ) (l : List ℕ) (y x : ℕ) → Onward Step m l y → Step y x → Onward Step m (l ++ x ∷ []) x
further Step m [] y x e s = (rw e s, refl)
further Step m (z ∷ l) y x (s, h) t = (s, further Step z l y x h t)

module _ (p : Paths) (inside : Inside p.graph) (v : ℕ) where
  is_standing : (m : ℕ) → Says (stands p v m) (Stands p v m)
  unfolding stands
  is_standing m = is_lt m p.graph.members

  is_begin : (m : ℕ) → Says (begins p v m) (Begins p v m)
  unfolding begins
  is_begin m =
      conj (is_standing m)
      (disj (is_eq m v) (disj (is_true (p.graph.friends v m)) (is_admitted p.graph inside (p.search m) m v)))

  is_going : (m x : ℕ) → Says (goes p v m x) (Goes p v m x)
  unfolding goes
  is_going m x =
      iff (λ (a, (b, c)). (a, b, c)) (λ (a, b, c). (a, (b, c)))
      (conj (is_standing x) (conj (is_true (p.graph.friends m x)) (is_admitted p.graph inside (p.traversal m) m v)))

  begins_member : (m : ℕ) → Begins p v m → m < p.graph.members
  begins_member m b = b.0

  goes_member : (m x : ℕ) → Goes p v m x → x < p.graph.members
  goes_member m x g = g.0

  reached_sound : (k x : ℕ) → Among x (reached p v k) → Chain p v x
  unfolding reached
  reached_sound zero x h = (x, [], (is_begin x).yes_if (among_those (begins p v) p.graph.members x h).1, refl)
  reached_sound (suc k) x h = go (steps.yes_if (among_those test p.graph.members x h).1) (λ y i. reached_sound k y i)
    where
      l : List ℕ
      l = reached p v k

      test : ℕ → Bool
      test x = among x l || some (λ m. among m l && goes p v m x) p.graph.members

      steps : Says (test x) (Among x l ⊎ ((m : ℕ) × (m < p.graph.members) × (Among m l × Goes p v m x)))
      steps = disj (is_among x l) (is_some (λ m. conj (is_among m l) (is_going m x)) p.graph.members)

      go : Among x l ⊎ ((m : ℕ) × (m < p.graph.members) × (Among m l × Goes p v m x)) → ((y : ℕ) → Among y l → Chain p v y) → Chain p v x
      go (inl i) ih = ih x i
      go (inr (y, b, (i, s))) ih = let (m, r, a, c) = ih y i in (m, r ++ x ∷ [], a, further (Goes p v) m r y x c s)

  module _ (l : List ℕ) (e : closed p v l ≡ true) where
    at : (m : ℕ) → m < p.graph.members → (Begins p v m → Among m l) × (Among m l → (x : ℕ) → x < p.graph.members → Goes p v m x → Among x l)
    unfolding closed
    at m b = (pick ((disj (negated (is_begin m)) (is_among m l)).yes_if halves.0), second)
      where
        pick : {P Q : Type 0} → (P → ⊥) ⊎ Q → P → Q
        pick (inl n) h = absurd (n h)
        pick (inr q) h = q

        on : Bool
        on = every (λ x. not (goes p v m x) || among x l) p.graph.members

        halves : ((not (begins p v m) || among m l) ≡ true) × ((not (among m l) || on) ≡ true)
        halves = (conj (is_true _) (is_true _)).yes_if (every_holds _ p.graph.members e m b)

        second : Among m l → (x : ℕ) → x < p.graph.members → Goes p v m x → Among x l
        second i x c =
            let all : on ≡ true = pick ((disj (negated (is_among m l)) (is_true on)).yes_if halves.1) i in
            pick ((disj (negated (is_going m x)) (is_among x l)).yes_if (every_holds _ p.graph.members all x c))

    stays : (m : ℕ) (r : List ℕ) (u : ℕ) → m < p.graph.members → Onward (Goes p v) m r u → Among m l → Among u l
    stays m [] u b q i = rw (← q) i
    stays m (x ∷ r) u b (g, h) i = stays x r u (goes_member m x g) h ((at m b).1 i x (goes_member m x g) g)

    closed_holds : (u : ℕ) → Chain p v u → Among u l
    closed_holds u (m, r, a, h) = stays m r u (begins_member m a) h ((at m (begins_member m a)).0 a)

  -- the sets of those that are reached grow until one is closed
  within : (k x : ℕ) → Among x (reached p v k) → x < p.graph.members
  unfolding reached
  within zero x i = (among_those _ p.graph.members x i).0
  within (suc k) x i = (among_those _ p.graph.members x i).0

  kept : (k x : ℕ) → Among x (reached p v k) → Among x (reached p v (suc k))
  unfolding reached
  kept k x i = those_among _ p.graph.members x (within k x i) (rw (is_so (is_among x (reached p v k)) i) refl)

  started : (k m : ℕ) → Begins p v m → Among m (reached p v k)
  unfolding reached
  started zero m b = those_among (begins p v) p.graph.members m (begins_member m b) (is_so (is_begin m) b)
  started (suc k) m b = kept k m (started k m b)

  stepped : (k m x : ℕ) → Among m (reached p v k) → Goes p v m x → Among x (reached p v (suc k))
  unfolding reached
  stepped k m x i g =
      those_among _ p.graph.members x (goes_member m x g)
      (is_so (disj (is_among x (reached p v k)) (is_some (λ y. conj (is_among y (reached p v k)) (is_going y x)) p.graph.members))
      (inr (m, within k m i, (i, g))))

  -- where a set is not closed, a step leads out of it
  left : (k : ℕ) → closed p v (reached p v k) ≡ false → (x : ℕ) × (x < p.graph.members) × (among x (reached p v k) ≡ false) × Among x (reached p v (suc k))
  unfolding closed
  left k e =
      let (m, b, f) = every_fails _ p.graph.members e in
      from m b (either_fails _ _ f)
    where
      l : List ℕ
      l = reached p v k

      Out : Type 0
      Out = (x : ℕ) × (x < p.graph.members) × (among x l ≡ false) × Among x (reached p v (suc k))

      either_fails : (a b : Bool) → (a && b) ≡ false → (a ≡ false) ⊎ (b ≡ false)
      either_fails true b h = inr h
      either_fails false b h = inl refl

      both_fail : (a b : Bool) → (not a || b) ≡ false → (a ≡ true) × (b ≡ false)
      both_fail true b h = (refl, h)
      both_fail false b h = absurd (true≢false h)

      from : (m : ℕ) → m < p.graph.members
          → ((not (begins p v m) || among m l) ≡ false) ⊎ ((not (among m l) || every (λ x. not (goes p v m x) || among x l) p.graph.members) ≡ false)
          → Out
      from m b (inl h) =
          let (s, out) = both_fail _ _ h in
          absurd ((is_among m l).no_if out (started k m ((is_begin m).yes_if s)))
      from m b (inr h) =
          let (i, f) = both_fail _ _ h in
          let (x, c, g) = every_fails _ p.graph.members f in
          let (s, out) = both_fail _ _ g in
          (x, c, out, stepped k m x ((is_among m l).yes_if i) ((is_going m x).yes_if s))

  abbrev Closed : Type 0
  Closed = (k : ℕ) × (closed p v (reached p v k) ≡ true)

  grown : (k : ℕ) → Closed ⊎ (k ≤ count (λ x. among x (reached p v k)) p.graph.members)
  grown zero = inr zero-le
  grown (suc k) = go (grown k)
    where
      on : k ≤ count (λ x. among x (reached p v k)) p.graph.members → (b : Bool) → closed p v (reached p v k) ≡ b
          → Closed ⊎ (suc k ≤ count (λ x. among x (reached p v (suc k))) p.graph.members)
      on h true e = inl (k, e)
      on h false e =
          let (x, b, out, i) = left k e in
          inr (omega (
            arith,
            h,
            count_more (λ y. among y (reached p v k)) (λ y. among y (reached p v (suc k))) p.graph.members x b
                (λ y q. is_so (is_among y (reached p v (suc k))) (kept k y ((is_among y (reached p v k)).yes_if q)))
                out (is_so (is_among x (reached p v (suc k))) i),
          ))

      go : Closed ⊎ (k ≤ count (λ x. among x (reached p v k)) p.graph.members) → Closed ⊎ (suc k ≤ count (λ x. among x (reached p v (suc k))) p.graph.members)
      go (inl c) = inl c
      go (inr h) = on h (closed p v (reached p v k)) refl

  some_closed : Closed
  some_closed = go (grown (suc p.graph.members))
    where
      go : Closed ⊎ (suc p.graph.members ≤ count (λ x. among x (reached p v (suc p.graph.members))) p.graph.members) → Closed
      go (inl c) = c
      go (inr h) = absurd (omega (arith, count_le (λ x. among x (reached p v (suc p.graph.members))) p.graph.members))

  -- there is a test of who is found
  pub chain_test : (test : ℕ → Bool) × ((u : ℕ) → Says (test u) (Chain p v u))
  chain_test =
      let (k, e) = some_closed in
      (λ u. among u (reached p v k), λ u. iff (reached_sound k u) (closed_holds (reached p v k) e u) (is_among u (reached p v k)))

-- whoever is found is a member
pub found_member : (w : World) (v u : ℕ) → Finds w v u → u < w.graph.members
found_member w v u (m, l, b, o) = go m l b.0 o
  where
    go : (m : ℕ) (l : List ℕ) → m < w.graph.members → Onward (Goes (paths w) v) m l u → u < w.graph.members
    go m [] b e = rw (← e) b
    go m (x ∷ l) b (g, o) = go x l g.0 o

pub is_found : (w : World) → Inside w.graph → (v : ℕ) → sure w v ≡ true → (u : ℕ) → Says (finds w v u) (Finds w v u)
unfolding finds sure found
is_found w inside v e u =
    iff (reached_sound (paths w) inside v w.graph.members u) (closed_holds (paths w) inside v (found w v) e u) (is_among u (found w v))
