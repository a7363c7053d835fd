-- Rows as four words.
use Prim.Native.Nat.{ℕ, zero, suc, ◌+◌, ◌*◌, ◌/◌, ◌%◌, ◌^◌, ◌<◌}
use mathlib.Core.Path.{◌≡◌, refl, sym, ap, ◌∙◌}
use mathlib.Core.Bool.{Bool, false, false≢true, not, ◌&&◌, ◌||◌}
use mathlib.Core.List.{List, [], ◌∷◌}
use native.Mathlib.Decide.{ℕ_discrete}
use native.Mathlib.Omega.{arith}
use lib.Arith.{digits_div, digits_mod}
use lib.Bits.{bit_and, bit_or, and_mask}
use lib.Dec.{eqb}
use lib.ListN.{length, get_or, get_or-eq_default}
use Rattle.std.specs.Bool.{Decides}
use Rattle.std.proofs.lemmas.Bool.Decides.{Decides-not}
use Rattle.model.specs.Bytes.{bit}
use Rattle.model.proofs.Bits.{digit_zero, digit_of_zero, digit_shr, bit_no, bit_and_lem, bit_or_lem, bit_below, below_no_bit, some_bit}
use Rattle.sets.specs.Rows.{row_bit}
use Rattle.sets.specs.Sets.{Meet, Join, Rest, Has, NotEmpty}

pub bit_of_zero : (p : ℕ) → bit 0 p ≡ false
bit_of_zero p = bit_no 0 p (digit_of_zero p)

-- four words of 64 bits
pub record Words (xs : List ℕ) : Type 0 where
  pub four : length xs ≡ 4
  pub fits : (i : ℕ) → get_or xs i 0 < 2 ^ 64

-- ---- word by word, an operation that is one on bits

-- r's words are those of a and b under an operation
pub record ByWord (on : ℕ → ℕ → ℕ) (a b r : List ℕ) : Type 0 where
  pub four_a : length a ≡ 4
  pub four_b : length b ≡ 4
  pub four : length r ≡ 4
  pub word_0 : get_or r 0 0 ≡ on (get_or a 0 0) (get_or b 0 0)
  pub word_1 : get_or r 1 0 ≡ on (get_or a 1 0) (get_or b 1 0)
  pub word_2 : get_or r 2 0 ≡ on (get_or a 2 0) (get_or b 2 0)
  pub word_3 : get_or r 3 0 ≡ on (get_or a 3 0) (get_or b 3 0)

no_word : (xs : List ℕ) (q : ℕ) → length xs ≡ 4 → get_or xs (suc (suc (suc (suc q)))) 0 ≡ 0
no_word xs q e = get_or-eq_default xs 0 (omega arith)

pub four_words : (xs : List ℕ) → length xs ≡ 4 → (get_or xs 0 0 ∷ get_or xs 1 0 ∷ get_or xs 2 0 ∷ get_or xs 3 0 ∷ []) ≡ xs
four_words [] e = absurd (omega arith)
four_words (a ∷ []) e = absurd (omega arith)
four_words (a ∷ b ∷ []) e = absurd (omega arith)
four_words (a ∷ b ∷ c ∷ []) e = absurd (omega arith)
four_words (a ∷ b ∷ c ∷ d ∷ []) e = refl
four_words (a ∷ b ∷ c ∷ d ∷ x ∷ xs) e = absurd (omega arith)

module _ {on : ℕ → ℕ → ℕ} {a b r : List ℕ} (w : ByWord on a b r) (f : Bool → Bool → Bool) (each : (x y p : ℕ) → bit (on x y) p ≡ f (bit x p) (bit y p)) (none : f false false ≡ false) where
  by_word : (q p : ℕ) → bit (get_or r q 0) p ≡ f (bit (get_or a q 0) p) (bit (get_or b q 0) p)
  by_word zero p = rw w.word_0 (each _ _ p)
  by_word (suc zero) p = rw w.word_1 (each _ _ p)
  by_word (suc (suc zero)) p = rw w.word_2 (each _ _ p)
  by_word (suc (suc (suc zero))) p = rw w.word_3 (each _ _ p)
  by_word (suc (suc (suc (suc q)))) p = rw (no_word r q w.four, no_word a q w.four_a, no_word b q w.four_b, bit_of_zero p) (sym none)

pub meet_words : {a b r : List ℕ} → ByWord bit_and a b r → Meet a b r
meet_words w = record { bits = λ m. by_word w ◌&&◌ bit_and_lem refl (m / 64) (m % 64) }

pub join_words : {a b r : List ℕ} → ByWord bit_or a b r → Join a b r
join_words w = record { bits = λ m. by_word w ◌||◌ bit_or_lem refl (m / 64) (m % 64) }

-- ---- the rest of a word

-- `set[m / 64] >> (m % 64)`
pub rest_word : (set : List ℕ) (m : ℕ) → get_or set (m / 64) 0 < 2 ^ 64 → Rest set m (get_or set (m / 64) 0 / 2 ^ (m % 64))
rest_word set m fits = record {
  bits = λ q h.
      let d : (m + q) / 64 ≡ m / 64 = omega arith in
      let e : (m + q) % 64 ≡ m % 64 + q = omega arith in
      shifted q ∙ sym (rw (d, e));
  ends = λ q h. bit_below (get_or set (m / 64) 0) 64 (m % 64 + q) (below_no_bit 64 _ fits) (sym (shifted q) ∙ h);
}
  where
    shifted : (q : ℕ) → bit (get_or set (m / 64) 0 / 2 ^ (m % 64)) q ≡ bit (get_or set (m / 64) 0) (m % 64 + q)
    shifted q = ap (λ (d : ℕ). eqb d 1) (digit_shr (get_or set (m / 64) 0) (m % 64) q)

-- `rest & 1 == 1`
pub rest_has : (set : List ℕ) (m r : ℕ) → Rest set m r → eqb (bit_and r 1) 1 ≡ row_bit set m
rest_has set m r h =
    let e : m + 0 ≡ m = omega arith in
    ap (λ (d : ℕ). eqb d 1) (and_mask r 1 ∙ sym (digit_zero r)) ∙ rw e at (h.bits 0 (omega arith))

-- ---- whether there is a member

-- the words of no member
abbrev pub none : List ℕ
none = 0 ∷ 0 ∷ 0 ∷ 0 ∷ []

module _ (set : List ℕ) (w : Words set) where
  in_word : (q : ℕ) → (get_or set q 0 ≡ 0 → ⊥) → (m : ℕ) × Has set m
  in_word q n =
      let (p, h, e) = some_bit 64 (get_or set q 0) (omega arith) (w.fits q) in
      (q * 64 + p, rw (digits_div q h, digits_mod q h) e)

  -- a set that is not four words of 0
  some_word : (set ≡ none → ⊥) → (m : ℕ) × Has set m
  some_word n = go (ℕ_discrete (get_or set 0 0) 0) (ℕ_discrete (get_or set 1 0) 0) (ℕ_discrete (get_or set 2 0) 0) (ℕ_discrete (get_or set 3 0) 0)
    where
      go : Dec (get_or set 0 0 ≡ 0) → Dec (get_or set 1 0 ≡ 0) → Dec (get_or set 2 0 ≡ 0) → Dec (get_or set 3 0 ≡ 0) → (m : ℕ) × Has set m
      go (no k) b c d = in_word 0 k
      go (yes a) (no k) c d = in_word 1 k
      go (yes a) (yes b) (no k) d = in_word 2 k
      go (yes a) (yes b) (yes c) (no k) = in_word 3 k
      go (yes a) (yes b) (yes c) (yes d) = absurd (n (sym (four_words set w.four) ∙ rw (a, b, c, d)))

no_member : (m : ℕ) → row_bit none m ≡ false
no_member m = word (m / 64) (m % 64)
  where
    word : (q p : ℕ) → bit (get_or none q 0) p ≡ false
    word zero p = bit_of_zero p
    word (suc zero) p = bit_of_zero p
    word (suc (suc zero)) p = bit_of_zero p
    word (suc (suc (suc zero))) p = bit_of_zero p
    word (suc (suc (suc (suc q)))) p = bit_of_zero p

-- `set != [0; 4]`
pub not_none : (set : List ℕ) → Words set → (r : Bool) → Decides r (set ≡ none) → NotEmpty set (not r)
not_none set w r d = record {
  tells = (λ e. some_word set w ((Decides-not r d).0 e), λ (m, h). (Decides-not r d).1 (λ n. false≢true (sym (no_member m) ∙ rw n at h)));
}
