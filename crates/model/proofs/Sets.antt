-- Sets of numbers built as bits, from bit 0 up.
use mathlib.Core.Path.{◌≡◌, refl, ap, ◌∙◌}
use mathlib.Core.Bool.{Bool, true, false}
use Prim.Native.Nat.{ℕ, ◌+◌, ◌*◌, ◌%◌, ◌^◌, ◌<◌}
use native.Mathlib.Omega.{arith}
use borrow.Author.Count.{below_more}
use lib.Bits.{bit_or}
use lib.Dec.{eqb}
use Rattle.model.specs.Bytes.{bit, NoBitFrom}
use Rattle.model.proofs.Bits.{digit_of_zero, set_same, set_other, shl_one, bit_yes, bit_no}

pub none_in_zero : (p : ℕ) → NoBitFrom p 0
none_in_zero p q l = bit_no 0 q (digit_of_zero q)

-- set' is the set, which has no bit at or above p, with bit p as t says
pub record Added (set p : ℕ) (t : Bool) (set' : ℕ) : Type 0 where
  pub kept : (q : ℕ) → q < p → bit set' q ≡ bit set q
  pub here : bit set' p ≡ t
  pub none_above : NoBitFrom (p + 1) set'

-- `set | (1 << p)` in w digits
pub added : (w set p : ℕ) → p < w → NoBitFrom p set → Added set p true (bit_or set (1 * 2 ^ p % 2 ^ w))
added w set p f none = rw (shl_one w p f) record {
  kept = λ q l. other q (λ e. omega arith);
  here = bit_yes (bit_or set (1 * 2 ^ p)) p (set_same set p);
  none_above = λ q l. other q (λ e. omega arith) ∙ none q (omega arith);
}
  where
    other : (q : ℕ) → (q ≡ p → ⊥) → bit (bit_or set (1 * 2 ^ p)) q ≡ bit set q
    other q n = ap (λ (d : ℕ). eqb d 1) (set_other set p q n)

pub left_out : (set p : ℕ) → NoBitFrom p set → Added set p false set
left_out set p none = record { kept = λ q l. refl; here = none p (omega arith); none_above = λ q l. none q (omega arith) }

-- the set holds those below n that pass the test, and nothing at or above n
pub record Built (f : ℕ → Bool) (n set : ℕ) : Type 0 where
  pub has : (k : ℕ) → k < n → bit set k ≡ f k
  pub none_above : NoBitFrom n set

pub built_none : (f : ℕ → Bool) → Built f 0 0
built_none f = record { has = λ k h. absurd (omega arith); none_above = none_in_zero 0 }

pub built_more : (f : ℕ → Bool) (n set set' : ℕ) → Built f n set → Added set n (f n) set' → Built f (n + 1) set'
built_more f n set set' b a = record {
  has = below_more (λ (k : ℕ). bit set' k ≡ f k) n (λ k h. a.kept k h ∙ b.has k h) a.here;
  none_above = a.none_above;
}
