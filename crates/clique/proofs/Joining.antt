-- The friends of many members at once.
use Prim.Native.Nat.{ℕ, zero, suc, ◌+◌, ◌/◌, ◌%◌, ◌<◌, ◌≤◌}
use mathlib.Core.Path.{◌≡◌, refl, sym, ◌∙◌}
use mathlib.Core.Bool.{Bool, true, false, ◌||◌, or-true}
use mathlib.Core.List.{List, [], ◌∷◌}
use mathlib.Core.Logic.{◌⊎◌, inl, inr, ⊎_elim}
use native.Mathlib.Decide.{ℕ_discrete, dec_lt}
use native.Mathlib.Omega.{arith}
use lib.ListN.{get_or}
use Rattle.model.proofs.Bits.{digit_of_zero, bit_no}
use Rattle.sets.specs.Rows.{row_bit}
use Rattle.sets.specs.Sets.{Has, Join, FirstFrom}
use Rattle.clique.specs.Mutual.{FriendsOf}
use Rattle.clique.proofs.Holding.{never}

either : (a b : Bool) → (a || b) ≡ true → (a ≡ true) ⊎ (b ≡ true)
either true b e = inl refl
either false b e = inr e

module _ {a b r : List ℕ} (j : Join a b r) where
  in_either : (y : ℕ) → Has r y → Has a y ⊎ Has b y
  in_either y h = either _ _ (sym (j.bits y) ∙ h)

  left_in : (y : ℕ) → Has a y → Has r y
  left_in y h = j.bits y ∙ rw h

  right_in : (y : ℕ) → Has b y → Has r y
  right_in y h = j.bits y ∙ rw h (or-true (row_bit a y))

-- ---- a loop over the members of a set

pub friends_of_none : {rows : List (List ℕ)} {set : List ℕ} {from to : ℕ} → to ≤ from → FriendsOf rows set from to (0 ∷ 0 ∷ 0 ∷ 0 ∷ [])
friends_of_none e = record {
  each = λ x y a b h k. absurd (omega arith);
  only = λ y h. absurd (never h (rw (zeros (y / 64)) (bit_no 0 (y % 64) (digit_of_zero (y % 64)))));
}
  where
    zeros : (q : ℕ) → ◌≡◌ {A = ℕ} (get_or (0 ∷ 0 ∷ 0 ∷ 0 ∷ []) q 0) 0
    zeros zero = refl
    zeros (suc zero) = refl
    zeros (suc (suc zero)) = refl
    zeros (suc (suc (suc zero))) = refl
    zeros (suc (suc (suc (suc q)))) = refl

module _ {rows : List (List ℕ)} {set all : List ℕ} {from n r : ℕ} (f : FriendsOf rows set from n all) (first : FirstFrom set n r) where
  pub friends_past : FriendsOf rows set from r all
  friends_past = record { each = λ x y a b h k. go x y a b h k (dec_lt x n); only = f.only }
    where
      go : (x y : ℕ) → from ≤ x → x < r → Has set x → Has (get_or rows x []) y → Dec (x < n) → Has all y
      go x y a b h k (yes l) = f.each x y a l h k
      go x y a b h k (no l) = absurd (never h (first.none x (omega arith) b))

  -- r's friends too
  pub friends_on : {more : List ℕ} → r < 256 → Join all (get_or rows r []) more → FriendsOf rows set from (r + 1) more
  friends_on {more} small j = record {
    each = λ x y a b h k. go x y a b h k (ℕ_discrete x r);
    only = λ y h. ⊎_elim (f.only y) (λ k. (r, first.here small, k)) (in_either j y h);
  }
    where
      go : (x y : ℕ) → from ≤ x → x < r + 1 → Has set x → Has (get_or rows x []) y → Dec (x ≡ r) → Has more y
      go x y a b h k (yes e) = right_in j y (rw e at k)
      go x y a b h k (no d) = left_in j y (friends_past.each x y a (omega arith) h k)
