-- Laws of the degree: every two members have one, only one, and it is below the number of members.
use Prim.Native.Nat.{ℕ, zero, suc, ◌+◌, ◌<◌, ◌≤◌, zero-le}
use mathlib.Core.Path.{◌≡◌, refl, sym, ap, ◌∙◌}
use mathlib.Core.Bool.{Bool, true, false, false≢true}
use mathlib.Core.List.{List, [], ◌∷◌, ◌++◌}
use mathlib.Core.Logic.{◌↔◌, ◌⊎◌, inl, inr, ⊎_elim}
use native.Mathlib.Decide.{dec_le}
use native.Mathlib.Omega.{arith}
use native.Mathlib.Nat.{not-suc-le-zero}
use lib.ListN.{length}
use Rattle.model.specs.Graph.{Graph, Friends, Onward, Within, Degree, friendships, none, IsDegree, count}
use Rattle.model.specs.Calls.{degree_number}
use Rattle.model.proofs.Computing.{is_within, has_degree}
use Rattle.model.proofs.Counting.{count_le, count_more}
use Rattle.model.proofs.Deciding.{Inside, is_so, is_not, is_lt, conj, negated, is_within_lem}
use Rattle.model.proofs.Walking.{further}

pub within_more : (g : Graph) {j k : ℕ} (u v : ℕ) → j ≤ k → Within g j u v → Within g k u v
within_more g u v h (l, b, o) = (l, omega arith, o)

-- at most one
pub degree_once : (g : Graph) (u v : ℕ) (d e : Degree) → IsDegree g u v d → IsDegree g u v e → d ≡ e
degree_once g u v (friendships d) (friendships e) (w, low) (x, least) =
    let p : d ≡ e = omega (arith, low e x, least d w) in
    ap friendships p
degree_once g u v (friendships d) none (w, low) far = absurd (far d w)
degree_once g u v none (friendships e) far (x, least) = absurd (far e x)
degree_once g u v none none far gone = refl

-- 0 exactly from a member to itself
pub degree_zero : (g : Graph) (u v : ℕ) → IsDegree g u v (friendships 0) ↔ (u ≡ v)
degree_zero g u v = (λ (w, low). from w, λ e. (([], omega arith, e), λ k w. zero-le))
  where
    from : Within g 0 u v → u ≡ v
    from ([], b, e) = e
    from (x ∷ l, b, e) = absurd (omega arith)

-- on a shortest walk each friendship brings the degree down by one
next_nearer : (g : Graph) (u v d : ℕ) → IsDegree g u v (friendships (suc d))
    → (x : ℕ) × Friends g u x × IsDegree g x v (friendships d)
next_nearer g u v d (([], b, e), low) = absurd (not-suc-le-zero (low 0 ([], omega arith, e)))
next_nearer g u v d ((x ∷ l, b, (f, o)), low) =
    (x, f, ((l, omega arith, o), λ k (r, c, w). omega (arith, low (suc k) (x ∷ r, omega arith, (f, w)))))

module _ (g : Graph) (inside : Inside g) where
  -- a degree of at most k
  abbrev Near : ℕ → ℕ → ℕ → Type 0
  Near k u v = (d : ℕ) × (d ≤ k) × IsDegree g u v (friendships d)

  nearest : (k u v : ℕ) → Near k u v ⊎ (Within g k u v → ⊥)
  nearest zero u v = go (is_within g 0 u v) refl
    where
      go : (b : Bool) → is_within g 0 u v ≡ b → Near 0 u v ⊎ (Within g 0 u v → ⊥)
      go true e = inl (0, zero-le, ((is_within_lem g inside 0 u v).yes_if e, λ k w. zero-le))
      go false e = inr ((is_within_lem g inside 0 u v).no_if e)
  nearest (suc k) u v = from (nearest k u v)
    where
      at : (Within g k u v → ⊥) → (b : Bool) → is_within g (suc k) u v ≡ b → Near (suc k) u v ⊎ (Within g (suc k) u v → ⊥)
      at far true e = inl (suc k, omega arith, ((is_within_lem g inside (suc k) u v).yes_if e, low))
        where
          low : (j : ℕ) → Within g j u v → suc k ≤ j
          low j w = elim (dec_le (suc k) j) [ yes p ↦ p | no n ↦ absurd (far (within_more g u v (omega arith) w)) ]
      at far false e = inr ((is_within_lem g inside (suc k) u v).no_if e)

      from : Near k u v ⊎ (Within g k u v → ⊥) → Near (suc k) u v ⊎ (Within g (suc k) u v → ⊥)
      from (inl (d, b, h)) = inl (d, omega arith, h)
      from (inr far) = at far (is_within g (suc k) u v) refl

  -- within k exactly where there is a degree and it is at most k
  pub within_degree : (k u v : ℕ) → Within g k u v ↔ ((d : ℕ) × (d ≤ k) × IsDegree g u v (friendships d))
  within_degree k u v = (
    λ w. ⊎_elim (λ n. n) (λ far. absurd (far w)) (nearest k u v),
    λ (d, b, (w, low)). within_more g u v b w,
  )

  -- more than d members are within d of v, where one is exactly so far
  many_within : (d u v : ℕ) → u < g.members → IsDegree g u v (friendships d) → d < count (λ m. is_within g d m v) g.members
  many_within zero u v lu (w, low) =
      omega (arith, count_more (λ m. false) (λ m. is_within g 0 m v) g.members u lu (λ m e. absurd (false≢true e)) refl (is_so (is_within_lem g inside 0 u v) w))
  many_within (suc d) u v lu (w, low) =
      let (x, f, h) = next_nearer g u v d (w, low) in
      omega (
        arith,
        many_within d x v (inside u x f) h,
        count_more (λ m. is_within g d m v) (λ m. is_within g (suc d) m v) g.members u lu
            (λ m e. is_so (is_within_lem g inside (suc d) m v) (within_more g m v (omega arith) ((is_within_lem g inside d m v).yes_if e)))
            (is_not (is_within_lem g inside d u v) (λ s. omega (arith, low d s)))
            (is_so (is_within_lem g inside (suc d) u v) w),
      )

  -- a shortest walk repeats nobody
  pub degree_below : (d u v : ℕ) → u < g.members → IsDegree g u v (friendships d) → d < g.members
  degree_below d u v lu h = omega (arith, many_within d u v lu h, count_le (λ m. is_within g d m v) g.members)

  -- where no walk of n - 1 friendships joins them, none of any length does
  pub degree_none : (limit u v : ℕ) → u < g.members → g.members ≤ limit + 1 → (Within g limit u v → ⊥) → IsDegree g u v none
  degree_none limit u v lu all far k w =
      let (d, b, h) = (within_degree k u v).0 w in
      far (within_more g u v (omega (arith, degree_below d u v lu h)) h.0)

  -- there is one
  pub degree_exists : (u v : ℕ) → u < g.members → (d : Degree) × IsDegree g u v d
  degree_exists u v lu =
      ⊎_elim (λ (d, b, h). (friendships d, h))
      (λ far. (none, degree_none g.members u v lu (omega arith) far)) (nearest g.members u v)

  -- the degree, computed
  pub has_degree_lem : (u v : ℕ) (d : Degree) → has_degree g u v d ≡ true → IsDegree g u v d
  unfolding has_degree
  has_degree_lem u v (friendships zero) e = ((is_within_lem g inside 0 u v).yes_if e, λ k w. zero-le)
  has_degree_lem u v (friendships (suc d)) e =
      let (w, far) = (conj (is_within_lem g inside (suc d) u v) (negated (is_within_lem g inside d u v))).yes_if e in
      (w, λ k x. elim (dec_le (suc d) k) [ yes p ↦ p | no n ↦ absurd (far (within_more g u v (omega arith) x)) ])
  has_degree_lem u v none e =
      let (lu, far) = (conj (is_lt u g.members) (negated (is_within_lem g inside g.members u v))).yes_if e in
      degree_none g.members u v lu (omega arith) far

  -- equal numbers in a lent place are equal degrees
  pub number_tells : (u v x y : ℕ) (d e : Degree) → u < g.members → x < g.members → g.members ≤ 65535
      → IsDegree g u v d
      → IsDegree g x y e
      → degree_number d ≡ degree_number e
      → d ≡ e
  number_tells u v x y (friendships d) (friendships e) lu lx few h i q = ap friendships q
  number_tells u v x y (friendships d) none lu lx few h i q = absurd (omega (arith, degree_below d u v lu h))
  number_tells u v x y none (friendships e) lu lx few h i q = absurd (omega (arith, degree_below e x y lx i))
  number_tells u v x y none none lu lx few h i q = refl

-- where friendship goes both ways, so does the degree
module _ (g : Graph) (both : (u v : ℕ) → g.friends u v ≡ g.friends v u) where
  turned : (u : ℕ) (l : List ℕ) (v : ℕ) → Onward (Friends g) u l v → (r : List ℕ) × (length r ≡ length l) × Onward (Friends g) v r u
  turned u [] v e = ([], refl, sym e)
  turned u (x ∷ l) v (f, o) =
      let (r, e, w) = turned x l v o in
      (r ++ u ∷ [], longer r ∙ ap suc e, further (Friends g) v r x u w (both x u ∙ f))
    where
      longer : (r : List ℕ) → length (r ++ u ∷ []) ≡ suc (length r)
      longer [] = refl
      longer (y ∷ r) = ap suc (longer r)

  within_turned : (k u v : ℕ) → Within g k u v → Within g k v u
  within_turned k u v (l, b, o) = let (r, e, w) = turned u l v o in (r, omega arith, w)

  pub degree_turned : (u v : ℕ) (d : Degree) → IsDegree g u v d → IsDegree g v u d
  degree_turned u v (friendships d) (w, low) = (within_turned d u v w, λ k x. low k (within_turned k v u x))
  degree_turned u v none far = λ k x. far k (within_turned k v u x)
