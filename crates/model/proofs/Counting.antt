-- Counts of those that pass a test.
use mathlib.Core.Path.{◌≡◌, refl, sym, ap, ap₂, ◌∙◌}
use mathlib.Core.Bool.{Bool, true, false, true≢false}
use Prim.Native.Nat.{ℕ, zero, suc, ◌+◌, ◌-◌, ◌≤◌, ◌<◌, zero-le}
use native.Mathlib.Nat.{add_assoc, add-zero, add-suc, le-suc, le_refl, lt_of_lt_of_le, not-suc-le-zero}
use native.Mathlib.Decide.{ℕ_discrete}
use native.Mathlib.Omega.{arith}
use Rattle.model.specs.Graph.{one, count}

-- the same below n, the same count
pub count_ext : (f g : ℕ → Bool) (n : ℕ) → ((m : ℕ) → m < n → f m ≡ g m) → count f n ≡ count g n
unfolding count
count_ext f g zero h = refl
count_ext f g (suc n) h =
    ap₂ (λ (x y : ℕ). x + y) (count_ext f g n (λ m l. h m (lt_of_lt_of_le l (le-suc n)))) (ap one (h n (le_refl (suc n))))

-- a count goes on from n
pub count_split : (f : ℕ → Bool) (n k : ℕ) → count f (n + k) ≡ count f n + count (λ (m : ℕ). f (n + m)) k
unfolding count
count_split f n zero = ap (count f) (add-zero n) ∙ sym (add-zero (count f n))
count_split f n (suc k) =
    ap (count f) (add-suc n k)
    ∙ ap (λ (x : ℕ). x + one (f (n + k))) (count_split f n k)
    ∙ add_assoc (count f n) (count (λ (m : ℕ). f (n + m)) k) (one (f (n + k)))

one_le : (b : Bool) → one b ≤ 1
one_le true = le_refl 1
one_le false = zero-le

pub count_le : (f : ℕ → Bool) (n : ℕ) → count f n ≤ n
unfolding count
count_le f zero = zero-le
count_le f (suc n) = omega (arith, count_le f n, one_le (f n))

none : (f : ℕ → Bool) (k : ℕ) → ((m : ℕ) → m < k → f m ≡ false) → count f k ≡ 0
unfolding count
none f zero h = refl
none f (suc k) h =
    let e : count f k ≡ 0 = none f k (λ m l. h m (lt_of_lt_of_le l (le-suc k))) in
    let d : one (f k) ≡ 0 = ap one (h k (le_refl (suc k))) in
    omega arith

-- where none is at or above n, the count below k is that below n
pub count_above : (f : ℕ → Bool) (n k : ℕ) → n ≤ k → ((m : ℕ) → n ≤ m → f m ≡ false) → count f k ≡ count f n
count_above f n k l h =
    let e : n + (k - n) ≡ k = omega arith in
    ap (count f) (sym e)
    ∙ count_split f n (k - n)
    ∙ ap (λ (x : ℕ). count f n + x) (none (λ (m : ℕ). f (n + m)) (k - n) (λ m b. h (n + m) (omega arith)))
    ∙ add-zero (count f n)

-- where the count is not 0, one passes
pub count_some : (f : ℕ → Bool) (n : ℕ) → 1 ≤ count f n → (m : ℕ) × (m < n) × (f m ≡ true)
unfolding count
count_some f zero h = absurd (omega arith)
count_some f (suc n) h = go (f n) refl (λ i. count_some f n i)
  where
    go : (b : Bool) → f n ≡ b → (1 ≤ count f n → (m : ℕ) × (m < n) × (f m ≡ true)) → (m : ℕ) × (m < suc n) × (f m ≡ true)
    go true e ih = (n, omega arith, e)
    go false e ih =
        let z : one (f n) ≡ 0 = ap one e in
        let (m, b, t) = ih (omega arith) in
        (m, omega arith, t)

one_more : (a b : Bool) → (a ≡ true → b ≡ true) → one a ≤ one b
one_more true true h = le_refl 1
one_more true false h = absurd (true≢false (sym (h refl)))
one_more false b h = zero-le

count_mono : (f h : ℕ → Bool) (n : ℕ) → ((m : ℕ) → f m ≡ true → h m ≡ true) → count f n ≤ count h n
unfolding count
count_mono f h zero i = zero-le
count_mono f h (suc n) i = omega (arith, count_mono f h n i, one_more (f n) (h n) (i n))

-- whoever passes f passes h, and u passes h alone
pub count_more : (f h : ℕ → Bool) (n u : ℕ) → u < n → ((m : ℕ) → f m ≡ true → h m ≡ true) → f u ≡ false → h u ≡ true
    → count f n < count h n
unfolding count
count_more f h zero u l i out is = absurd (not-suc-le-zero l)
count_more f h (suc n) u l i out is = go (ℕ_discrete u n) (λ b. count_more f h n u b i out is)
  where
    go : Dec (u ≡ n) → (u < n → count f n < count h n) → count f n + one (f n) < count h n + one (h n)
    go (yes e) ih =
        let a : one (f n) ≡ 0 = ap one (rw e at out) in
        let b : one (h n) ≡ 1 = ap one (rw e at is) in
        omega (arith, count_mono f h n i)
    go (no d) ih = omega (arith, ih (omega arith), one_more (f n) (h n) (i n))
