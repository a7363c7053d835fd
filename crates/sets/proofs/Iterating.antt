-- Iterating over the members of a set.
use Prim.Native.Nat.{ℕ, ◌+◌, ◌-◌, ◌*◌, ◌/◌, ◌%◌, ◌^◌, ◌≤◌, ◌<◌}
use mathlib.Core.Path.{◌≡◌, refl, sym, ◌∙◌}
use mathlib.Core.Bool.{true, false, false≢true}
use mathlib.Core.List.{List}
use native.Mathlib.Decide.{ℕ_discrete, dec_lt}
use native.Mathlib.Omega.{arith}
use borrow.Author.Tests.{eq-eqb, ne_eqb}
use lib.Bits.{bit_and}
use lib.Count.{count_trailing_zeros}
use lib.ListN.{length, get_or, get_or-eq_default}
use Rattle.std.specs.Prelude.{Option, Some, None}
use Rattle.model.specs.Bytes.{bit}
use Rattle.model.specs.Graph.{count}
use Rattle.model.proofs.Bits.{Lowest, trailing, bit_yes, bit_no, bit_below, below_no_bit, cleared_here, cleared_else}
use Rattle.model.proofs.Counting.{count_more}
use Rattle.sets.specs.Rows.{row_bit}
use Rattle.sets.specs.Sets.{Rest, FirstFrom, FirstMember}
use Rattle.sets.specs.Members.{Members, is_left, WordLeft, MembersFrom, NextMember, GivesMember}
use Rattle.sets.proofs.Words.{bit_of_zero}

-- none is at or above 256
none_above : (set : List ℕ) → length set ≡ 4 → (m : ℕ) → 256 ≤ m → row_bit set m ≡ false
none_above set e m h = let z : get_or set (m / 64) 0 ≡ 0 = get_or-eq_default set 0 (omega arith) in rw z (bit_of_zero (m % 64))

-- ---- where a member is: below base, in base's word, or in a later word

module _ (s : Members) (m : ℕ) where
  left_below : m < s.base → is_left s m ≡ false
  left_below h = rw (ne_eqb (s.base - m) 0 (λ e. omega arith)) refl

  left_here : s.base ≤ m → m / 64 ≡ s.base / 64 → is_left s m ≡ bit s.word (m - s.base)
  left_here h e = rw (eq-eqb (s.base - m) 0 (omega arith), eq-eqb (m / 64) (s.base / 64) e) refl

  left_later : s.base ≤ m → (m / 64 ≡ s.base / 64 → ⊥) → is_left s m ≡ row_bit s.set m
  left_later h n = rw (eq-eqb (s.base - m) 0 (omega arith), ne_eqb (m / 64) (s.base / 64) n) refl

-- ---- the start

-- the bits of base's word from base on are those of the set
starts : (set : List ℕ) (from word : ℕ) → ((m : ℕ) → from ≤ m → m / 64 ≡ from / 64 → bit word (m - from) ≡ row_bit set m)
    → MembersFrom set from (record { set = set; base = from; word = word })
starts set from word f = record {
  below = λ m h. left_below _ m h;
  here = λ m h. go m h (ℕ_discrete (m / 64) (from / 64));
}
  where
    go : (m : ℕ) → from ≤ m → Dec (m / 64 ≡ from / 64) → is_left (record { set = set; base = from; word = word }) m ≡ row_bit set m
    go m h (yes e) = left_here _ m h e ∙ f m h e
    go m h (no n) = left_later _ m h n

pub starts_at : {set : List ℕ} {from word : ℕ} → Rest set from word → MembersFrom set from (record { set = set; base = from; word = word })
starts_at {set} {from} {word} r = starts set from word (λ m h e. let p : from + (m - from) ≡ m = omega arith in rw p at (r.bits (m - from) (omega arith)))

pub starts_beyond : (set : List ℕ) (from : ℕ) → length set ≡ 4 → 256 ≤ from → MembersFrom set from (record { set = set; base = from; word = 0 })
starts_beyond set from four b = starts set from 0 (λ m h e. bit_of_zero (m - from) ∙ sym (none_above set four m (omega arith)))

-- ---- the next word

module _ (s : Members) (e : s.word ≡ 0) where
  -- no bit of base's word is left
  word_done : (m : ℕ) → s.base ≤ m → m / 64 ≡ s.base / 64 → is_left s m ≡ false
  word_done m h d = left_here s m h d ∙ rw e (bit_of_zero (m - s.base))

  pub next_word : (base word : ℕ) → base ≡ (s.base / 64 + 1) * 64 → word ≡ get_or s.set (s.base / 64 + 1) 0 → (m : ℕ)
      → is_left (record { set = s.set; base = base; word = word }) m ≡ is_left s m
  next_word base word p q m = go (dec_lt m base) (dec_lt m s.base) (ℕ_discrete (m / 64) (base / 64))
    where
      go : Dec (m < base) → Dec (m < s.base) → Dec (m / 64 ≡ base / 64) → is_left (record { set = s.set; base = base; word = word }) m ≡ is_left s m
      go (yes a) (yes b) c = left_below _ m a ∙ sym (left_below s m b)
      go (yes a) (no b) c = left_below _ m a ∙ sym (word_done m (omega arith) (omega arith))
      go (no a) b (no c) = left_later _ m (omega arith) c ∙ sym (left_later s m (omega arith) (λ d. omega arith))
      go (no a) b (yes c) =
          let w : s.base / 64 + 1 ≡ m / 64 = omega arith in
          let d : m - base ≡ m % 64 = omega arith in
          left_here _ m (omega arith) c ∙ rw (q, w, d) refl ∙ sym (left_later s m (omega arith) (λ d. omega arith))

  pub no_word : length s.set ≡ 4 → 4 ≤ s.base / 64 + 1 → (m : ℕ) → is_left s m ≡ false
  no_word four l m = go (dec_lt m s.base) (ℕ_discrete (m / 64) (s.base / 64))
    where
      go : Dec (m < s.base) → Dec (m / 64 ≡ s.base / 64) → is_left s m ≡ false
      go (yes a) d = left_below s m a
      go (no a) (yes d) = word_done m (omega arith) d
      go (no a) (no d) = left_later s m (omega arith) d ∙ none_above s.set four m (omega arith)

pub word_left : (base word : ℕ) → base % 64 ≡ 0 → base < 256 → word < 2 ^ 64 → WordLeft base word
word_left base word e l f = record { ends = λ q h. omega (arith, bit_below word 64 q (below_no_bit 64 word f) h); small = λ q h. l }

-- ---- the next member

module _ (s : Members) (l : WordLeft s.base s.word) (n : s.word ≡ 0 → ⊥) (f : s.word < 2 ^ 64) where
  lowest : Lowest s.word 64 (count_trailing_zeros 64 s.word)
  lowest = trailing 64 s.word (omega arith) f

  cleared : (q : ℕ) → bit (bit_and s.word (s.word - 1)) q ≡ true → bit s.word q ≡ true
  cleared q h = go (ℕ_discrete q (count_trailing_zeros 64 s.word))
    where
      go : Dec (q ≡ count_trailing_zeros 64 s.word) → bit s.word q ≡ true
      go (yes e) = rw e (bit_yes s.word _ lowest.here)
      go (no d) = sym (cleared_else lowest q d) ∙ h

  pub less_left : WordLeft s.base (bit_and s.word (s.word - 1))
  less_left = record { ends = λ q h. l.ends q (cleared q h); small = λ q h. l.small q (cleared q h) }

  abbrev after : Members
  after = record { set = s.set; base = s.base; word = bit_and s.word (s.word - 1) }

  pub next_left : (from : Members) → ((m : ℕ) → is_left s m ≡ is_left from m)
      → NextMember from (s.base + count_trailing_zeros 64 s.word) after
  next_left from same = record {
    small = omega (arith, l.small z here, l.ends z here);
    here = sym (same (s.base + z)) ∙ left_here s (s.base + z) (omega arith) (omega (arith, l.ends z here)) ∙ rw at_z here;
    none = λ k h. sym (same k) ∙ before k h (dec_lt k s.base);
    past = λ k h. gone k h (dec_lt k s.base) (ℕ_discrete k (s.base + z));
    later = λ k h. kept k h (ℕ_discrete (k / 64) (s.base / 64)) ∙ same k;
  }
    where
      z : ℕ
      z = count_trailing_zeros 64 s.word

      here : bit s.word z ≡ true
      here = bit_yes s.word z lowest.here

      at_z : s.base + z - s.base ≡ z
      at_z = omega arith

      before : (k : ℕ) → k < s.base + z → Dec (k < s.base) → is_left s k ≡ false
      before k h (yes a) = left_below s k a
      before k h (no a) = left_here s k (omega arith) (omega (arith, l.ends z here)) ∙ bit_no s.word _ (lowest.below (k - s.base) (omega arith))

      gone : (k : ℕ) → k ≤ s.base + z → Dec (k < s.base) → Dec (k ≡ s.base + z) → is_left after k ≡ false
      gone k h (yes a) d = left_below after k a
      gone k h (no a) (yes d) = left_here after k (omega arith) (omega (arith, l.ends z here)) ∙ rw (d, at_z) (cleared_here lowest)
      gone k h (no a) (no d) =
          left_here after k (omega arith) (omega (arith, l.ends z here))
          ∙ cleared_else lowest (k - s.base) (λ e. omega arith)
          ∙ bit_no s.word _ (lowest.below (k - s.base) (omega arith))

      kept : (k : ℕ) → s.base + z < k → Dec (k / 64 ≡ s.base / 64) → is_left after k ≡ is_left s k
      kept k h (yes e) = left_here after k (omega arith) e ∙ cleared_else lowest (k - s.base) (λ d. omega arith) ∙ sym (left_here s k (omega arith) e)
      kept k h (no e) = left_later after k (omega arith) e ∙ sym (left_later s k (omega arith) e)

-- fewer are left then
pub fewer_left : {left after : Members} {m : ℕ} → NextMember left m after → count (is_left after) 256 < count (is_left left) 256
fewer_left {left} {after} {m} n = count_more (is_left after) (is_left left) 256 m n.small (λ k e. go k e (dec_lt m k)) (n.past m (omega arith)) n.here
  where
    go : (k : ℕ) → is_left after k ≡ true → Dec (m < k) → is_left left k ≡ true
    go k e (yes a) = sym (n.later k a) ∙ e
    go k e (no a) = absurd (false≢true (sym (n.past k (omega arith)) ∙ e))

-- ---- the first of a set

module _ {set : List ℕ} {from : ℕ} {left : Members} (p : MembersFrom set from left) where
  pub first_left : {m : ℕ} {after : Members} → NextMember left m after → FirstFrom set from m × MembersFrom set (m + 1) after
  first_left {m} {after} n = (
    record {
      small = omega (arith, n.small);
      later = λ a. above;
      here = λ a. sym (p.here m above) ∙ n.here;
      none = λ k a b. sym (p.here k a) ∙ n.none k b;
    },
    record { below = λ k h. n.past k (omega arith); here = λ k h. n.later k (omega arith) ∙ p.here k (omega (arith, above)) },
  )
    where
      go : Dec (m < from) → from ≤ m
      go (yes a) = absurd (false≢true (sym (p.below m a) ∙ n.here))
      go (no a) = omega arith

      above : from ≤ m
      above = go (dec_lt m from)

  pub none_left : ((m : ℕ) → is_left left m ≡ false) → FirstFrom set from 256
  none_left n = record {
    small = omega arith;
    later = λ a. a;
    here = λ a. absurd (omega arith);
    none = λ k a b. sym (p.here k a) ∙ n k;
  }

  pub first_member : (r : Option ℕ) (after : Members) → GivesMember left r after → FirstMember set from r
  first_member (Some m) _ n = ((first_left n).0, n.small)
  first_member None _ n = none_left n
