-- The laws of `digit x p = x / 2 ^ p % 2` over the machine's operations, and of the lowest bit.
use mathlib.Core.Path.{◌≡◌, refl, sym, ap, ap₂, ◌∙◌, subst}
use mathlib.Core.Bool.{Bool, true, false, cond, ◌&&◌, ◌||◌, and-false, or-true}
use Prim.Native.Nat.{ℕ, zero, suc, ◌+◌, ◌-◌, ◌*◌, ◌/◌, ◌%◌, ◌^◌, ◌≤◌, ◌<◌, min, max}
use native.Mathlib.Nat.{zero-div, mul_assoc, le_dest, div-one, div-div-eq-div-mul, pow-succ', pow-zero, two-pow-succ, div-eq_of_lt, mod-lt, zero-lt-suc, not-suc-le-zero, le_of_suc-le-suc, div-lt_iff_lt-mul, div-le_self, pow-suc, div-add-mod'}
use native.Mathlib.Decide.{ℕ_discrete, dec_lt}
use native.Mathlib.Omega.{arith}
use borrow.Author.Tests.{eq-eqb, ne_eqb, eqb-true, eqb-false}
use lib.Arith.{digits_mod, lt-one}
use lib.Bits.{shifted_even, bit_and, bit_or, and_step, or_step, and_shr, or_shr, and_mask}
use lib.Count.{count_trailing_zeros, under}
use lib.Dec.{eqb, lit<}
use lib.Pow.{shl_exact, pow_pos, pow-add, pow-lt, pow_mono, shl-shr}
use Rattle.model.specs.Bytes.{digit, bit, NoBitFrom}
use Rattle.model.specs.Scheme.{lowest_from, lowest}

two_pos : 0 < 2
two_pos = zero-lt-suc 1

pub digit_lt : (x p : ℕ) → digit x p < 2
digit_lt x p = mod-lt (x / 2 ^ p) two_pos

pub digit_zero : (x : ℕ) → digit x 0 ≡ x % 2
digit_zero x = ap (λ (y : ℕ). y % 2) (div-one x)

pub digit_suc : (x p : ℕ) → digit x (suc p) ≡ digit (x / 2) p
digit_suc x p = ap (λ (y : ℕ). y % 2) (ap (λ (y : ℕ). x / y) (pow-succ' 2 p) ∙ sym (div-div-eq-div-mul x 2 (2 ^ p)))

-- a number has no digit at or above its length
pub digit_above : {x : ℕ} (p : ℕ) → x < 2 ^ p → digit x p ≡ 0
digit_above p h = ap (λ (y : ℕ). y % 2) (div-eq_of_lt h)

pub digit_of_zero : (k : ℕ) → digit 0 k ≡ 0
digit_of_zero k = ap (λ (y : ℕ). y % 2) (zero-div (2 ^ k))

-- `(x >> p) & 1`
pub shr_and_one : (x p : ℕ) → bit_and (x / 2 ^ p) 1 ≡ digit x p
shr_and_one x p = and_mask (x / 2 ^ p) 1

pub and_odd : (a b : ℕ) → bit_and a b % 2 ≡ min (a % 2) (b % 2)
and_odd a b = ap (λ (y : ℕ). y % 2) (and_step a b) ∙ digits_mod (bit_and (a / 2) (b / 2)) (omega (arith, mod-lt a two_pos))

pub or_odd : (a b : ℕ) → bit_or a b % 2 ≡ max (a % 2) (b % 2)
or_odd a b = ap (λ (y : ℕ). y % 2) (or_step a b) ∙ digits_mod (bit_or (a / 2) (b / 2)) (omega (arith, mod-lt a two_pos, mod-lt b two_pos))

pub digit_and : (a b p : ℕ) → digit (bit_and a b) p ≡ min (digit a p) (digit b p)
digit_and a b p = ap (λ (y : ℕ). y % 2) (and_shr a b p) ∙ and_odd (a / 2 ^ p) (b / 2 ^ p)

pub digit_or : (a b p : ℕ) → digit (bit_or a b) p ≡ max (digit a p) (digit b p)
digit_or a b p = ap (λ (y : ℕ). y % 2) (or_shr a b p) ∙ or_odd (a / 2 ^ p) (b / 2 ^ p)

-- a digit is 1, or it is 0
pub bit_yes : (x p : ℕ) → digit x p ≡ 1 → bit x p ≡ true
bit_yes x p e = eq-eqb (digit x p) 1 e

pub bit_no : (x p : ℕ) → digit x p ≡ 0 → bit x p ≡ false
bit_no x p e = ne_eqb (digit x p) 1 (λ z. omega arith)

pub yes_bit : (x p : ℕ) → bit x p ≡ true → digit x p ≡ 1
yes_bit x p e = eqb-true (digit x p) 1 e

pub no_bit : (x p : ℕ) → bit x p ≡ false → digit x p ≡ 0
no_bit x p e = let h : digit x p ≡ 1 → ⊥ = eqb-false (digit x p) 1 e in omega (arith, digit_lt x p)

-- `a & b`, bit by bit
pub bit_and_lem : (x y p : ℕ) → bit (bit_and x y) p ≡ (bit x p && bit y p)
bit_and_lem x y p = go (ℕ_discrete (digit x p) 1) (ℕ_discrete (digit y p) 1)
  where
    d : digit (bit_and x y) p ≡ min (digit x p) (digit y p)
    d = digit_and x y p

    go : Dec (digit x p ≡ 1) → Dec (digit y p ≡ 1) → bit (bit_and x y) p ≡ (bit x p && bit y p)
    go (yes a) (yes b) = bit_yes (bit_and x y) p (omega (arith, d)) ∙ sym (rw (bit_yes x p a, bit_yes y p b))
    go (yes a) (no b) = bit_no (bit_and x y) p (omega (arith, d, digit_lt y p)) ∙ sym (rw (bit_no y p (omega (arith, digit_lt y p))) (and-false (bit x p)))
    go (no a) b = bit_no (bit_and x y) p (omega (arith, d, digit_lt x p)) ∙ sym (rw (bit_no x p (omega (arith, digit_lt x p))))

-- `a | b`, bit by bit
pub bit_or_lem : (x y p : ℕ) → bit (bit_or x y) p ≡ (bit x p || bit y p)
bit_or_lem x y p = go (ℕ_discrete (digit x p) 1) (ℕ_discrete (digit y p) 1)
  where
    d : digit (bit_or x y) p ≡ max (digit x p) (digit y p)
    d = digit_or x y p

    go : Dec (digit x p ≡ 1) → Dec (digit y p ≡ 1) → bit (bit_or x y) p ≡ (bit x p || bit y p)
    go (yes a) b = bit_yes (bit_or x y) p (omega (arith, d, digit_lt y p)) ∙ sym (rw (bit_yes x p a))
    go (no a) (yes b) = bit_yes (bit_or x y) p (omega (arith, d, digit_lt x p)) ∙ sym (rw (bit_yes y p b) (or-true (bit x p)))
    go (no a) (no b) = bit_no (bit_or x y) p (omega (arith, d, digit_lt x p, digit_lt y p)) ∙ sym (rw (bit_no x p (omega (arith, digit_lt x p)), bit_no y p (omega (arith, digit_lt y p))))

-- ---- one digit set: `w | (1 << m)`

pub digit_pow_same : (m : ℕ) → digit (1 * 2 ^ m) m ≡ 1
digit_pow_same m = ap (λ (y : ℕ). y % 2) (shl-shr 1 m)

digit_pow_low : (m k : ℕ) → k < m → digit (1 * 2 ^ m) k ≡ 0
digit_pow_low m k h =
    let d = le_dest h in
    let j : ℕ = d.0 in
    let e : m ≡ suc j + k = omega (arith, d.1) in
    ap (λ (y : ℕ). y / 2 ^ k % 2) (ap (λ (y : ℕ). 1 * 2 ^ y) e ∙ ap (λ (y : ℕ). 1 * y) (pow-add 2 (suc j) k) ∙ sym (mul_assoc 1 (2 ^ suc j) (2 ^ k)))
    ∙ ap (λ (y : ℕ). y % 2) (shl-shr (1 * 2 ^ suc j) k)
    ∙ shifted_even 1 j

pub digit_pow_other : (m k : ℕ) → (k ≡ m → ⊥) → digit (1 * 2 ^ m) k ≡ 0
digit_pow_other m k n = go (dec_lt k m)
  where
    go : Dec (k < m) → digit (1 * 2 ^ m) k ≡ 0
    go (yes h) = digit_pow_low m k h
    go (no h) = let l : m < k = omega arith in digit_above k (omega (arith, pow-lt l))

pub set_same : (w m : ℕ) → digit (bit_or w (1 * 2 ^ m)) m ≡ 1
set_same w m = digit_or w (1 * 2 ^ m) m ∙ omega (arith, digit_pow_same m)

pub set_other : (w m k : ℕ) → (k ≡ m → ⊥) → digit (bit_or w (1 * 2 ^ m)) k ≡ digit w k
set_other w m k n = digit_or w (1 * 2 ^ m) k ∙ omega (arith, digit_pow_other m k n)

-- the machine's `1 << m` in w digits
pub shl_one : (w m : ℕ) → m < w → 1 * 2 ^ m % 2 ^ w ≡ 1 * 2 ^ m
shl_one w m h = shl_exact 1 m w (lit< tt) (omega arith)

-- ---- bits at or above a place

-- a number that is not 0 has a bit
pub some_bit : (n x : ℕ) → 1 ≤ x → x < 2 ^ n → (q : ℕ) × (q < n) × (bit x q ≡ true)
some_bit zero x a b = absurd (omega (arith, pow-zero 2))
some_bit (suc n) x a b = go (ℕ_discrete (x % 2) 1) (λ h k. some_bit n (x / 2) h k)
  where
    go : Dec (x % 2 ≡ 1) → (1 ≤ x / 2 → x / 2 < 2 ^ n → (q : ℕ) × (q < n) × (bit (x / 2) q ≡ true)) → (q : ℕ) × (q < suc n) × (bit x q ≡ true)
    go (yes e) ih = (0, omega arith, bit_yes x 0 (digit_zero x ∙ e))
    go (no e) ih =
        let b' : x < 2 ^ n + 2 ^ n = rw (two-pow-succ n) at b in
        let (q, l, h) = ih (omega arith) (omega arith) in
        (suc q, omega arith, bit_yes x (suc q) (digit_suc x q ∙ yes_bit (x / 2) q h))

-- a number below 2 ^ p has no bit at or above p
pub below_no_bit : (p x : ℕ) → x < 2 ^ p → NoBitFrom p x
below_no_bit p x h q l = let m : 2 ^ p ≤ 2 ^ q = pow_mono l in bit_no x q (digit_above q (omega arith))

-- digit q of `x >> p`
pub digit_shr : (x p q : ℕ) → digit (x / 2 ^ p) q ≡ digit x (p + q)
digit_shr x p q = ap (λ (y : ℕ). y % 2) (div-div-eq-div-mul x (2 ^ p) (2 ^ q) ∙ ap (λ (y : ℕ). x / y) (sym (pow-add 2 p q)))

-- `x >> p` is 0 exactly where x has no bit at or above p; x has n digits
pub shr_zero : (p x : ℕ) → x / 2 ^ p ≡ 0 → NoBitFrom p x
shr_zero p x e q l =
    let h : x < 1 * 2 ^ p = (div-lt_iff_lt-mul (pow_pos p)).0 (omega arith) in
    below_no_bit p x (omega arith) q l

pub zero_shr : (n p x : ℕ) → x < 2 ^ n → NoBitFrom p x → x / 2 ^ p ≡ 0
zero_shr n p x b h = go (ℕ_discrete (x / 2 ^ p) 0)
  where
    found : ((q : ℕ) × (q < n) × (bit (x / 2 ^ p) q ≡ true)) → ⊥
    found (q, k, e) = omega (arith, sym (digit_shr x p q) ∙ yes_bit (x / 2 ^ p) q e, no_bit x (p + q) (h (p + q) (omega arith)))

    go : Dec (x / 2 ^ p ≡ 0) → x / 2 ^ p ≡ 0
    go (yes e) = e
    go (no e) = absurd (found (some_bit n (x / 2 ^ p) (omega arith) (omega (arith, div-le_self x (2 ^ p)))))

below_pow : (x : ℕ) → x < 2 ^ x
below_pow zero = omega (arith, pow-zero 2)
below_pow (suc x) = omega (arith, two-pow-succ x, below_pow x)

pub no_bit_below : (p x : ℕ) → NoBitFrom p x → x < 2 ^ p
no_bit_below p x h =
    let e : x / 2 ^ p ≡ 0 = zero_shr x p x (below_pow x) h in
    let l : x < 1 * 2 ^ p = (div-lt_iff_lt-mul (pow_pos p)).0 (omega arith) in
    omega arith

-- a bit is below where there are none
pub bit_below : (x p q : ℕ) → NoBitFrom p x → bit x q ≡ true → q < p
bit_below x p q n e = go (dec_lt q p)
  where
    go : Dec (q < p) → q < p
    go (yes h) = h
    go (no h) =
        let f : bit x q ≡ false = n q (omega arith) in
        let z : ◌≡◌ {A = ℕ} 0 1 = cc in
        absurd (omega arith)

-- ---- the lowest bit

lowest_from_lem : (x p left q : ℕ) → p ≤ q → q < p + left → bit x q ≡ true → bit x (lowest_from x p left) ≡ true
unfolding lowest_from
lowest_from_lem x p zero q a b h = absurd (omega arith)
lowest_from_lem x p (suc left) q a b h = go (bit x p) refl (λ d. lowest_from_lem x (suc p) left q d (omega arith) h)
  where
    go : (t : Bool) → bit x p ≡ t → (suc p ≤ q → bit x (lowest_from x (suc p) left) ≡ true) → bit x (cond t p (lowest_from x (suc p) left)) ≡ true
    go true e ih = e
    go false e ih = ih (later (ℕ_discrete p q))
      where
        later : Dec (p ≡ q) → suc p ≤ q
        later (yes z) = let w : ◌≡◌ {A = ℕ} 0 1 = cc in absurd (omega arith)
        later (no z) = omega arith

-- the lowest bit of a mask is set
pub lowest_in : (x : ℕ) → 1 ≤ x → x < 2 ^ 32 → bit x (lowest x) ≡ true
lowest_in x a b = let (q, l, h) = some_bit 32 x a b in lowest_from_lem x 0 32 q (omega arith) (omega arith) h

lowest_from_is : (x p left q : ℕ) → p ≤ q → q < p + left → bit x q ≡ true → ((k : ℕ) → p ≤ k → k < q → bit x k ≡ false) → lowest_from x p left ≡ q
unfolding lowest_from
lowest_from_is x p zero q a b h n = absurd (omega arith)
lowest_from_is x p (suc left) q a b h n = go (bit x p) refl (ℕ_discrete p q) (λ d. lowest_from_is x (suc p) left q d (omega arith) h (λ k i j. n k (omega arith) j))
  where
    go : (t : Bool) → bit x p ≡ t → Dec (p ≡ q) → (suc p ≤ q → lowest_from x (suc p) left ≡ q) → cond t p (lowest_from x (suc p) left) ≡ q
    go true e (yes z) ih = z
    go true e (no z) ih =
        let f : bit x p ≡ false = n p (omega arith) (omega arith) in
        let w : ◌≡◌ {A = ℕ} 0 1 = cc in
        absurd (omega arith)
    go false e (yes z) ih = let w : ◌≡◌ {A = ℕ} 0 1 = cc in absurd (omega arith)
    go false e (no z) ih = ih (omega arith)

-- the one place with a bit and none below it
pub lowest_is : (x q : ℕ) → q < 32 → bit x q ≡ true → ((k : ℕ) → k < q → bit x k ≡ false) → lowest x ≡ q
lowest_is x q a h n = lowest_from_is x 0 32 q (omega arith) (omega arith) h (λ k i j. n k j)

half_lt : {x : ℕ} (k : ℕ) → x < 2 ^ suc k → x / 2 < 2 ^ k
half_lt {x} k h = (div-lt_iff_lt-mul two_pos).1 (subst (λ (y : ℕ). x < y) (pow-suc 2 k) h)

digit_ext : (k x y : ℕ) → x < 2 ^ k → y < 2 ^ k → ((p : ℕ) → p < k → digit x p ≡ digit y p) → x ≡ y
digit_ext zero x y hx hy h = lt-one hx ∙ sym (lt-one hy)
digit_ext (suc k) x y hx hy h =
    let low : x % 2 ≡ y % 2 = sym (digit_zero x) ∙ h 0 (zero-lt-suc k) ∙ digit_zero y in
    let high : x / 2 ≡ y / 2 =
    digit_ext k (x / 2) (y / 2) (half_lt k hx) (half_lt k hy) (λ p l. sym (digit_suc x p) ∙ h (suc p) (omega arith) ∙ digit_suc y p) in
    sym (div-add-mod' x 2) ∙ ap₂ (λ (q r : ℕ). q * 2 + r) high low ∙ div-add-mod' y 2

same_digit : (x y p : ℕ) (b : Bool) → bit x p ≡ b → bit y p ≡ b → digit x p ≡ digit y p
same_digit x y p true e f = yes_bit x p e ∙ sym (yes_bit y p f)
same_digit x y p false e f = no_bit x p e ∙ sym (no_bit y p f)

-- sets with the same members are one
pub set_ext : (k x y : ℕ) → NoBitFrom k x → NoBitFrom k y → ((p : ℕ) → p < k → bit x p ≡ bit y p) → x ≡ y
set_ext k x y n m h = digit_ext k x y (no_bit_below k x n) (no_bit_below k y m) (λ p l. same_digit x y p (bit y p) (h p l) refl)

-- q is the lowest place with digit 1
pub record Lowest (x k q : ℕ) : Type 0 where
  pub small : q < k
  pub here : digit x q ≡ 1
  pub below : (j : ℕ) → j < q → digit x j ≡ 0

pub trailing : (k x : ℕ) → 0 < x → x < 2 ^ k → Lowest x k (count_trailing_zeros k x)
unfolding count_trailing_zeros
trailing zero x p h = absurd (not-suc-le-zero (subst (λ (y : ℕ). 0 < y) (lt-one h) p))
trailing (suc k) x p h = go (x % 2) refl (λ q. trailing k (x / 2) q (half_lt k h))
  where
    go : (d : ℕ) → x % 2 ≡ d → (0 < x / 2 → Lowest (x / 2) k (count_trailing_zeros k (x / 2))) → Lowest x (suc k) (under d (count_trailing_zeros k (x / 2)))
    go zero e ih =
        let l = ih (omega arith) in
        record {
          small = omega (arith, l.small);
          here = digit_suc x (count_trailing_zeros k (x / 2)) ∙ l.here;
          below = elim [ zero ↦ λ q. digit_zero x ∙ e | suc j ↦ λ q. digit_suc x j ∙ l.below j (le_of_suc-le-suc q) ];
        }
    go (suc d) e ih = record {
      small = omega arith;
      here = omega (arith, digit_zero x, mod-lt x two_pos);
      below = λ j q. absurd (not-suc-le-zero q);
    }

-- trailing zeros of a 32-bit mask
pub lowest_trailing : (x : ℕ) → 1 ≤ x → x < 2 ^ 32 → (count_trailing_zeros 32 x ≡ lowest x) × (count_trailing_zeros 32 x < 32)
lowest_trailing x a b =
    let t = trailing 32 x a b in
    (sym (lowest_is x (count_trailing_zeros 32 x) t.small (bit_yes x (count_trailing_zeros 32 x) t.here) (λ k l. bit_no x k (t.below k l))), t.small)

-- x - 1 has 0 at x's lowest digit 1, and x's digits above it
pred_digit : (x z q : ℕ) → digit x z ≡ 1 → ((j : ℕ) → j < z → digit x j ≡ 0) → z ≤ q → (q ≡ z → digit (x - 1) q ≡ 0) × (z < q → digit (x - 1) q ≡ digit x q)
pred_digit x zero zero h b l = (λ e. digit_zero (x - 1) ∙ omega (arith, digit_zero x), λ k. absurd (omega arith))
pred_digit x zero (suc q) h b l =
    let half : (x - 1) / 2 ≡ x / 2 = omega (arith, digit_zero x) in
    (λ e. absurd (omega arith), λ k. digit_suc (x - 1) q ∙ ap (λ (y : ℕ). digit y q) half ∙ sym (digit_suc x q))
pred_digit x (suc z) zero h b l = absurd (omega arith)
pred_digit x (suc z) (suc q) h b l =
    let even : x % 2 ≡ 0 = sym (digit_zero x) ∙ b 0 (omega arith) in
    let half : (x - 1) / 2 ≡ x / 2 - 1 = omega arith in
    let (same, other) = pred_digit (x / 2) z q (sym (digit_suc x z) ∙ h) (λ j k. sym (digit_suc x j) ∙ b (suc j) (omega arith)) (omega arith) in
    let d : digit (x - 1) (suc q) ≡ digit (x / 2 - 1) q = digit_suc (x - 1) q ∙ ap (λ (y : ℕ). digit y q) half in
    (λ e. d ∙ same (omega arith), λ k. d ∙ other (omega arith) ∙ sym (digit_suc x q))

-- `x & (x - 1)` is x without its lowest bit
module _ {x k z : ℕ} (t : Lowest x k z) where
  pub cleared_here : bit (bit_and x (x - 1)) z ≡ false
  cleared_here = bit_no _ z (digit_and x (x - 1) z ∙ omega (arith, (pred_digit x z z t.here t.below (omega arith)).0 refl))

  pub cleared_else : (q : ℕ) → (q ≡ z → ⊥) → bit (bit_and x (x - 1)) q ≡ bit x q
  cleared_else q n = ap (λ (d : ℕ). eqb d 1) (digit_and x (x - 1) q ∙ go (dec_lt q z))
    where
      go : Dec (q < z) → min (digit x q) (digit (x - 1) q) ≡ digit x q
      go (yes l) = omega (arith, t.below q l)
      go (no l) = omega (arith, (pred_digit x z q t.here t.below (omega arith)).1 (omega arith))
