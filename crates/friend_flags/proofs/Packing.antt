-- Bits packed into a word, eight at a time.
use Prim.Native.Nat.{ℕ, zero, suc, ◌+◌, ◌-◌, ◌*◌, ◌/◌, ◌%◌, ◌^◌, ◌≤◌, ◌<◌, max}
use mathlib.Core.Path.{◌≡◌, refl, sym, ap, ◌∙◌}
use mathlib.Core.Bool.{◌||◌}
use mathlib.Core.List.{List}
use native.Mathlib.Nat.{mul_assoc, le_dest, pow-zero, two-pow-succ}
use native.Mathlib.Decide.{dec_lt}
use native.Mathlib.Omega.{arith}
use lib.Arith.{digits_div, digits_mod}
use lib.Bits.{bit_or, shifted_even}
use lib.Dec.{eqb}
use lib.ListN.{get_or}
use lib.Pow.{pow-add, pow_mono, shl_exact, shl-shr}
use Rattle.model.specs.Bytes.{digit, bit, four}
use Rattle.model.proofs.Bits.{digit_or, bit_or_lem, digit_shr, digit_above, digit_zero, digit_suc, no_bit, below_no_bit, no_bit_below}
use Rattle.friend_flags.specs.Flags.{Packed}

-- ---- a byte ored into a word at bit s

module _ (x s : ℕ) where
  shifted_low : (p : ℕ) → p < s → digit (x * 2 ^ s) p ≡ 0
  shifted_low p h =
      let d = le_dest h in
      let j : ℕ = d.0 in
      let e : s ≡ suc j + p = omega (arith, d.1) in
      ap (λ (y : ℕ). y / 2 ^ p % 2) (ap (λ (y : ℕ). x * 2 ^ y) e ∙ ap (λ (y : ℕ). x * y) (pow-add 2 (suc j) p) ∙ sym (mul_assoc x (2 ^ suc j) (2 ^ p)))
      ∙ ap (λ (y : ℕ). y % 2) (shl-shr (x * 2 ^ suc j) p)
      ∙ shifted_even x j

  shifted_high : (q : ℕ) → digit (x * 2 ^ s) (s + q) ≡ digit x q
  shifted_high q = sym (digit_shr (x * 2 ^ s) s q) ∙ ap (λ (y : ℕ). digit y q) (shl-shr x s)

  shifted_above : (p : ℕ) → x < 256 → s + 8 ≤ p → digit (x * 2 ^ s) p ≡ 0
  shifted_above p small h =
      let e : p ≡ s + (p - s) = omega arith in
      let far : 8 ≤ p - s = omega arith in
      let l : 2 ^ 8 ≤ 2 ^ (p - s) = pow_mono far in
      rw e (shifted_high (p - s) ∙ digit_above (p - s) (omega arith))

module _ (word x s : ℕ) (small : x < 256) (fits : s ≤ 56) where
  -- the machine's `word | (x << s)`
  shifted : (p : ℕ) → digit (bit_or word (x * 2 ^ s % 2 ^ 64)) p ≡ digit (bit_or word (x * 2 ^ s)) p
  shifted p = ap (λ (y : ℕ). digit (bit_or word y) p) (shl_exact {a = x} 8 s 64 (omega arith) (omega arith))

  ored : (p : ℕ) → digit (bit_or word (x * 2 ^ s % 2 ^ 64)) p ≡ max (digit word p) (digit (x * 2 ^ s) p)
  ored p = shifted p ∙ digit_or word (x * 2 ^ s) p

  low_digit : (p : ℕ) → p < s → digit (bit_or word (x * 2 ^ s % 2 ^ 64)) p ≡ digit word p
  low_digit p h = ored p ∙ omega (arith, shifted_low x s p h)

  high_digit : (q : ℕ) → digit (bit_or word (x * 2 ^ s % 2 ^ 64)) (s + q) ≡ max (digit word (s + q)) (digit x q)
  high_digit q = ored (s + q) ∙ ap (max (digit word (s + q))) (shifted_high x s q)

  above_digit : (p : ℕ) → s + 8 ≤ p → digit (bit_or word (x * 2 ^ s % 2 ^ 64)) p ≡ digit word p
  above_digit p h = ored p ∙ omega (arith, shifted_above x s p small h)

  pub or_low : (p : ℕ) → p < s → bit (bit_or word (x * 2 ^ s % 2 ^ 64)) p ≡ bit word p
  or_low p h = ap (λ (d : ℕ). eqb d 1) (low_digit p h)

  pub or_high : (q : ℕ) → q < 8 → bit (bit_or word (x * 2 ^ s % 2 ^ 64)) (s + q) ≡ (bit word (s + q) || bit x q)
  or_high q h = ap (λ (d : ℕ). eqb d 1) (shifted (s + q)) ∙ bit_or_lem word (x * 2 ^ s) (s + q) ∙ ap (λ (d : ℕ). bit word (s + q) || eqb d 1) (shifted_high x s q)

  pub or_above : (p : ℕ) → s + 8 ≤ p → bit (bit_or word (x * 2 ^ s % 2 ^ 64)) p ≡ bit word p
  or_above p h = ap (λ (d : ℕ). eqb d 1) (above_digit p h)

-- ---- flags packed

-- n flags as a number, the first in the lowest bit
sum : (ℕ → ℕ) → ℕ → ℕ
sum f zero = 0
sum f (suc n) = f 0 + 2 * sum (λ k. f (suc k)) n

sum_lt : (f : ℕ → ℕ) → ((k : ℕ) → f k ≤ 1) → (n : ℕ) → sum f n < 2 ^ n
unfolding sum
sum_lt f h zero = omega (arith, pow-zero 2)
sum_lt f h (suc n) = omega (arith, h 0, two-pow-succ n, sum_lt (λ k. f (suc k)) (λ k. h (suc k)) n)

sum_digit : (f : ℕ → ℕ) → ((k : ℕ) → f k ≤ 1) → (n k : ℕ) → k < n → digit (sum f n) k ≡ f k
unfolding sum
sum_digit f h zero k l = absurd (omega arith)
sum_digit f h (suc n) zero l = digit_zero (sum f (suc n)) ∙ omega (arith, h 0)
sum_digit f h (suc n) (suc k) l =
    let half : sum f (suc n) / 2 ≡ sum (λ k. f (suc k)) n = omega (arith, h 0) in
    digit_suc (sum f (suc n)) k ∙ ap (λ (y : ℕ). digit y k) half ∙ sum_digit (λ k. f (suc k)) (λ k. h (suc k)) n k (omega arith)

-- eight flags, eight bits apart and then four, moved side by side by one product: nothing is carried
gathered : (f₀ f₁ f₂ f₃ f₄ f₅ f₆ f₇ : ℕ) → f₀ ≤ 1 → f₁ ≤ 1 → f₂ ≤ 1 → f₃ ≤ 1 → f₄ ≤ 1 → f₅ ≤ 1 → f₆ ≤ 1 → f₇ ≤ 1
    → (f₀ + 256 * f₁ + 65536 * (f₂ + 256 * f₃) + (f₄ + 256 * f₅ + 65536 * (f₆ + 256 * f₇)) * 16) * 2113665 / 2 ^ 21 % 256
    ≡ f₀ + 2 * (f₁ + 2 * (f₂ + 2 * (f₃ + 2 * (f₄ + 2 * (f₅ + 2 * (f₆ + 2 * f₇))))))
gathered f₀ f₁ f₂ f₃ f₄ f₅ f₆ f₇ h₀ h₁ h₂ h₃ h₄ h₅ h₆ h₇ =
    ap (λ (y : ℕ). y / 2 ^ 21 % 256) parts
    ∙ ap (λ (y : ℕ). y % 256) (digits_div (high * 256 + value) low_small)
    ∙ digits_mod high value_small
  where
    low : ℕ
    low = 16513 * f₀ + 33024 * f₁ + 65536 * f₂ + 264208 * f₄ + 528384 * f₅ + 1048576 * f₆

    value : ℕ
    value = f₀ + 2 * (f₁ + 2 * (f₂ + 2 * (f₃ + 2 * (f₄ + 2 * (f₅ + 2 * (f₆ + 2 * f₇))))))

    high : ℕ
    high = f₁ + 258 * f₂ + 66052 * f₃ + 16 * f₅ + 4128 * f₆ + 1056832 * f₇

    parts : (f₀ + 256 * f₁ + 65536 * (f₂ + 256 * f₃) + (f₄ + 256 * f₅ + 65536 * (f₆ + 256 * f₇)) * 16) * 2113665 ≡ (high * 256 + value) * 2 ^ 21 + low
    parts = omega arith

    low_small : low < 2 ^ 21
    low_small = omega arith

    value_small : value < 256
    value_small = omega arith

module _ (flags : List ℕ) (at : ℕ) (ok : (k : ℕ) → get_or flags k 0 ≤ 1) where
  f : ℕ → ℕ
  f k = get_or flags (at + k) 0

  moved : (p k : ℕ) → p ≡ at + k → get_or flags p 0 ≡ f k
  unfolding f
  moved p k e = ap (λ (y : ℕ). get_or flags y 0) e

  in_sum : f 0 + 2 * (f 1 + 2 * (f 2 + 2 * (f 3 + 2 * (f 4 + 2 * (f 5 + 2 * (f 6 + 2 * f 7)))))) ≡ sum f 8
  unfolding sum
  in_sum = omega arith

  small : (k : ℕ) → f k ≤ 1
  unfolding f
  small k = ok (at + k)

  pub eight_packed : (low high r : ℕ) → low ≡ four flags at → high ≡ four flags (at + 4)
      → r ≡ (low + high * 16) * 2113665 / 2 ^ 21 % 256
      → Packed flags at 8 r
  unfolding f
  eight_packed low high r a b e = rw sums record { digits = sum_digit f small 8; none_above = below_no_bit 8 (sum f 8) (sum_lt f small 8) }
    where
      apart : low + high * 16 ≡ f 0 + 256 * f 1 + 65536 * (f 2 + 256 * f 3) + (f 4 + 256 * f 5 + 65536 * (f 6 + 256 * f 7)) * 16
      apart =
          let f₀ = moved at 0 (omega arith) in
          let f₃ = moved (at + 2 + 1) 3 (omega arith) in
          let f₅ = moved (at + 4 + 1) 5 (omega arith) in
          let f₆ = moved (at + 4 + 2) 6 (omega arith) in
          let f₇ = moved (at + 4 + 2 + 1) 7 (omega arith) in
          omega (arith, moved (at + 1) 1 refl, moved (at + 2) 2 refl, moved (at + 4) 4 refl)

      sums : r ≡ sum f 8
      sums =
          e
          ∙ ap (λ (y : ℕ). y * 2113665 / 2 ^ 21 % 256) apart
          ∙ gathered (f 0) (f 1) (f 2) (f 3) (f 4) (f 5) (f 6) (f 7) (small 0) (small 1) (small 2) (small 3) (small 4) (small 5) (small 6) (small 7)
          ∙ in_sum

-- ---- a word, eight flags at a time

pub packed_more : (flags : List ℕ) (at m word x : ℕ) → m ≤ 56 → Packed flags at m word → Packed flags (at + m) 8 x
    → Packed flags at (m + 8) (bit_or word (x * 2 ^ m % 2 ^ 64))
packed_more flags at m word x fits p e = record {
  digits = λ k h. go k h (dec_lt k m);
  none_above = λ k h. or_above word x m small fits k h ∙ p.none_above k (omega arith);
}
  where
    small : x < 2 ^ 8
    small = no_bit_below 8 x e.none_above

    go : (k : ℕ) → k < m + 8 → Dec (k < m) → digit (bit_or word (x * 2 ^ m % 2 ^ 64)) k ≡ get_or flags (at + k) 0
    go k h (yes l) = low_digit word x m small fits k l ∙ p.digits k l
    go k h (no l) =
        let here : k ≡ m + (k - m) = omega arith in
        let place : at + m + (k - m) ≡ at + k = omega arith in
        let d : digit x (k - m) ≡ get_or flags (at + k) 0 = rw place at (e.digits (k - m) (omega arith)) in
        let either : digit (bit_or word (x * 2 ^ m % 2 ^ 64)) k ≡ max (digit word k) (digit x (k - m)) = rw (← here) at (high_digit word x m small fits (k - m)) in
        either ∙ omega (arith, no_bit word k (p.none_above k (omega arith)))
