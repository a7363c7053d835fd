-- Flags that tell what passes a test.
use Prim.Native.Nat.{ℕ, zero, suc, ◌/◌, ◌+◌, ◌*◌, ◌%◌, ◌^◌, ◌<◌}
use mathlib.Core.Path.{◌≡◌, refl, sym, ap, ◌∙◌}
use mathlib.Core.Bool.{Bool, true, false}
use mathlib.Core.List.{List}
use native.Mathlib.Omega.{arith}
use native.Mathlib.Decide.{ℕ_discrete}
use borrow.Author.Count.{below_more}
use borrow.Author.Tests.{eq-eqb, ne_eqb}
use lib.Count.{ones, under, count_trailing_zeros, ones_step}
use Rattle.std.proofs.lemmas.Nat.{zero_from_ones, ones_le_self}
use native.Mathlib.Nat.{pow-zero, two-pow-succ}
use mir.Val.{bool_byte}
use lib.Dec.{eqb}
use lib.ListN.{length, set, get_or, length-set}
use lib.Seq.{get_or-set_same, get_or-set_other}
use Rattle.model.specs.Bytes.{bit}
use Rattle.model.proofs.Bits.{digit_pow_same, digit_pow_other, bit_yes, bit_no}
use Rattle.friend_flags.specs.Flags.{flag, Told, Flagged}

-- a test as the machine's byte
pub flag_is : (t : Bool) → bool_byte t ≡ flag t
flag_is true = refl
flag_is false = refl

pub told_none : (Says : ℕ → Bool → Type 0) (states before : List ℕ) → Told Says states 0 before before
told_none Says states before = record { long = refl; each = λ k h. absurd (omega arith); kept = λ k h. refl }

-- the next flag
pub told_more : (Says : ℕ → Bool → Type 0) (states : List ℕ) (n x : ℕ) (t : Bool) (before after : List ℕ) → n < length after
    → Says (get_or states n 0) t
    → x ≡ flag t
    → Told Says states n before after
    → Told Says states (n + 1) before (set after n x)
told_more Says states n x t before after l says e told = record {
  long = length-set after n x ∙ told.long;
  each =
      below_more (λ (k : ℕ). (t : Bool) × Says (get_or states k 0) t × (get_or (set after n x) k 0 ≡ flag t)) n
      (λ k h. let (u, a, b) = told.each k h in (u, a, other k (λ z. omega arith) ∙ b))
      (t, says, get_or-set_same after n x 0 l ∙ e);
  kept = λ k h. other k (λ z. omega arith) ∙ told.kept k (omega arith);
}
  where
    other : (k : ℕ) → (k ≡ n → ⊥) → get_or (set after n x) k 0 ≡ get_or after k 0
    other k d = get_or-set_other after n k x 0 d

-- ---- one marked state

-- a number with one bit is that bit
one_set : (k n : ℕ) → n < 2 ^ k → ones n ≡ 1 → n ≡ 2 ^ count_trailing_zeros k n
unfolding count_trailing_zeros
one_set zero n l e = absurd (omega (arith, pow-zero 2, ones_le_self n))
one_set (suc k) n l e = go (n % 2) refl (one_set k (n / 2) (omega (arith, two-pow-succ k)))
  where
    go : (d : ℕ) → n % 2 ≡ d → (ones (n / 2) ≡ 1 → n / 2 ≡ 2 ^ count_trailing_zeros k (n / 2)) → n ≡ 2 ^ under d (count_trailing_zeros k (n / 2))
    go zero p half = omega (arith, half (omega (arith, ones_step n)), two-pow-succ (count_trailing_zeros k (n / 2)))
    go (suc d) p half =
        let z : n / 2 ≡ 0 = zero_from_ones (n / 2) (omega (arith, ones_step n)) in
        omega (arith, pow-zero 2)

one_marked : (q p : ℕ) → bit (1 * 2 ^ q) p ≡ eqb p q
one_marked q p = go (ℕ_discrete p q)
  where
    go : Dec (p ≡ q) → bit (1 * 2 ^ q) p ≡ eqb p q
    go (yes e) = rw e (bit_yes (1 * 2 ^ q) q (digit_pow_same q) ∙ sym (eq-eqb q q refl))
    go (no d) = bit_no (1 * 2 ^ q) p (digit_pow_other q p d) ∙ sym (ne_eqb p q d)

-- states told by a test that says whether they are marked
pub told_marked : (Says : ℕ → Bool → Type 0) (states : List ℕ) (marks : ℕ) (before after : List ℕ)
    → ((k : ℕ) (t : Bool) → Says (get_or states k 0) t → t ≡ bit marks (get_or states k 0 % 32))
    → Told Says states (length states) before after
    → Flagged states marks 0 (length states) before after
told_marked Says states marks before after says told = record {
  long = told.long;
  each = λ k h. let (t, a, b) = told.each k h in let e : 0 + k ≡ k = omega arith in rw e (b ∙ ap flag (says k t a));
  kept = told.kept;
}

-- a state is the one marked state, or is not marked
pub one_says : (state marks : ℕ) (t : Bool) → marks < 2 ^ 16 → ones marks ≡ 1 → state < 32 → t ≡ eqb state (count_trailing_zeros 16 marks) → t ≡ bit marks (state % 32)
one_says state marks t l one small says =
    let same : state % 32 ≡ state = omega arith in
    let mask : marks ≡ 1 * 2 ^ count_trailing_zeros 16 marks = omega (arith, one_set 16 marks l one) in
    rw same (says ∙ sym (one_marked (count_trailing_zeros 16 marks) state) ∙ ap (λ (x : ℕ). bit x state) (sym mask))
