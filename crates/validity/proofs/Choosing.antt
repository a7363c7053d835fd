-- Sets of policies: all up to a number, those chosen, and whether a mask has them.
use Prim.Native.Nat.{ℕ, zero, suc, ◌+◌, ◌*◌, ◌-◌, ◌/◌, ◌%◌, ◌^◌, ◌<◌, ◌≤◌}
use mathlib.Core.Bool.{Bool, true, false, ◌&&◌}
use mathlib.Core.List.{List}
use mathlib.Core.Logic.{◌↔◌}
use mathlib.Core.Path.{◌≡◌, refl, sym, ap, ◌∙◌}
use native.Mathlib.Nat.{two-pow-succ}
use native.Mathlib.Decide.{ℕ_discrete, dec_lt}
use native.Mathlib.Omega.{arith}
use borrow.Author.Count.{below_more}
use lib.Bits.{bit_and, bit_or, and_le_l}
use lib.Pow.{pow_pos, pow_mono}
use Rattle.model.specs.Bytes.{byte, digit, bit}
use Rattle.model.proofs.Bits.{digit_above, digit_zero, digit_shr, digit_suc, digit_and, digit_or, digit_lt, digit_of_zero, bit_yes, yes_bit, bit_and_lem, set_same, set_other, shl_one, below_no_bit, set_ext}
use Rattle.validity.specs.Chosen.{Chosen}

-- ---- all up to a number: `u32::MAX >> (31 - most)`

ones : (k q : ℕ) → q < k → digit (2 ^ k - 1) q ≡ 1
ones zero q h = absurd (omega arith)
ones (suc k) zero h = digit_zero (2 ^ suc k - 1) ∙ omega (arith, two-pow-succ k, pow_pos k)
ones (suc k) (suc q) h =
    let half : (2 ^ suc k - 1) / 2 ≡ 2 ^ k - 1 = omega (arith, two-pow-succ k, pow_pos k) in
    digit_suc (2 ^ suc k - 1) q ∙ ap (λ (x : ℕ). digit x q) half ∙ ones k q (omega arith)

pub up_to : (most p : ℕ) → most < 32 → (bit (4294967295 / 2 ^ (31 - most)) p ≡ true) ↔ (p ≤ most)
up_to most p a = (λ h. go h (dec_lt most p), λ b. bit_yes (4294967295 / 2 ^ (31 - most)) p (same ∙ ones 32 (31 - most + p) (omega arith)))
  where
    same : digit (4294967295 / 2 ^ (31 - most)) p ≡ digit 4294967295 (31 - most + p)
    same = digit_shr 4294967295 (31 - most) p

    go : bit (4294967295 / 2 ^ (31 - most)) p ≡ true → Dec (most < p) → p ≤ most
    go h (no n) = omega arith
    go h (yes n) =
        let later : 32 ≤ 31 - most + p = omega arith in
        let beyond : 2 ^ 32 ≤ 2 ^ (31 - most + p) = pow_mono later in
        let none : digit 4294967295 (31 - most + p) ≡ 0 = digit_above (31 - most + p) (omega arith) in
        absurd (omega (arith, yes_bit (4294967295 / 2 ^ (31 - most)) p h, same, none))

-- ---- `set & mask == set`

pub subset_has : (set mask p : ℕ) → bit_and set mask ≡ set → bit set p ≡ true → bit mask p ≡ true
subset_has set mask p e h = bit_yes mask p (omega (arith, digit_and set mask p, ap (λ (x : ℕ). digit x p) e, yes_bit set p h, digit_lt mask p))

pub has_subset : (set mask : ℕ) → set < 2 ^ 32 → ((p : ℕ) → bit set p ≡ true → bit mask p ≡ true) → bit_and set mask ≡ set
has_subset set mask small h =
    set_ext 32 (bit_and set mask) set (below_no_bit 32 (bit_and set mask) (omega (arith, and_le_l set mask))) (below_no_bit 32 set small) (λ p l. bit_and_lem set mask p ∙ both (bit set p) (bit mask p) (h p))
  where
    both : (x y : Bool) → (x ≡ true → y ≡ true) → (x && y) ≡ x
    both true y f = f refl
    both false y f = refl

-- ---- the policies chosen by the first members

pub chosen_none : (s : List ℕ) (first stride : ℕ) → Chosen s first stride 0 0
chosen_none s first stride = record {
  has = λ j h. absurd (omega arith);
  only = λ p h. absurd (omega (arith, digit_of_zero p, yes_bit 0 p h));
}

pub chosen_more : {s : List ℕ} {first stride m set : ℕ} → byte s (first + m * stride) < 32 → Chosen s first stride m set
    → Chosen s first stride (m + 1) (bit_or set (1 * 2 ^ byte s (first + m * stride) % 2 ^ 32))
chosen_more {s} {first} {stride} {m} {set} b g =
    rw (shl_one 32 new b)
    (record {
      has = below_more (λ (j : ℕ). bit more (byte s (first + j * stride)) ≡ true) m
          (λ j l. kept (byte s (first + j * stride)) (g.has j l)) (bit_yes more new (set_same set new));
      only = λ p h. from p h (ℕ_discrete p new);
    })
  where
    new : ℕ
    new = byte s (first + m * stride)

    more : ℕ
    more = bit_or set (1 * 2 ^ new)

    kept : (p : ℕ) → bit set p ≡ true → bit more p ≡ true
    kept p h = bit_yes more p (omega (arith, digit_or set (1 * 2 ^ new) p, yes_bit set p h, digit_lt more p))

    from : (p : ℕ) → bit more p ≡ true → Dec (p ≡ new) → (j : ℕ) × (j < m + 1) × (byte s (first + j * stride) ≡ p)
    from p h (yes same) = (m, omega arith, sym same)
    from p h (no far) =
        let (j, a, f) = g.only p (bit_yes set p (sym (set_other set new p far) ∙ yes_bit more p h)) in (j, omega arith, f)
