-- The members of a set one after the other.
use Rattle.std.specs.Prelude.{ℕ, ◌+◌, ◌-◌, ◌/◌, ◌%◌, ◌≤◌, ◌<◌, ◌≡◌, Bool, true, false, List, Option, None, Some}
use lib.Dec.{eqb}
use mathlib.Core.Bool.{cond}
use Rattle.model.specs.Bytes.{bit}
use Rattle.sets.specs.Rows.{row_bit}

-- what is left of a set: bits of base's word, from base on, and the later words
pub record Members : Type 0 where
  pub set : List ℕ
  pub base : ℕ
  pub word : ℕ

-- whether m is left
abbrev pub is_left : Members → ℕ → Bool
is_left s m = cond (eqb (s.base - m) 0) (cond (eqb (m / 64) (s.base / 64)) (bit s.word (m - s.base)) (row_bit s.set m)) false

-- the bits from base on end with base's word
pub record WordLeft (base word : ℕ) : Type 0 where
  pub ends : (q : ℕ) → bit word q ≡ true → base % 64 + q < 64
  pub small : (q : ℕ) → bit word q ≡ true → base < 256

-- left are the members of a set at or above from
pub record MembersFrom (set : List ℕ) (from : ℕ) (left : Members) : Type 0 where
  pub below : (m : ℕ) → m < from → is_left left m ≡ false
  pub here : (m : ℕ) → from ≤ m → is_left left m ≡ row_bit set m

-- m is the first that is left, and then those above it are
pub record NextMember (left : Members) (m : ℕ) (after : Members) : Type 0 where
  pub small : m < 256
  pub here : is_left left m ≡ true
  pub none : (k : ℕ) → k < m → is_left left k ≡ false
  pub past : (k : ℕ) → k ≤ m → is_left after k ≡ false
  pub later : (k : ℕ) → m < k → is_left after k ≡ is_left left k

-- the first that is left, if there is one
abbrev pub GivesMember : Members → Option ℕ → Members → Type 0
GivesMember left (Some m) after = NextMember left m after
GivesMember left None after = (m : ℕ) → is_left left m ≡ false
