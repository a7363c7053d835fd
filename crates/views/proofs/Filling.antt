-- A list that is filled in from the front on.
use Rattle.std.proofs.Common.{ℕ, suc, ◌+◌, ◌<◌, ◌≤◌, ◌≡◌, ◌∙◌, refl, List, [], ◌∷◌, map, length, get_or, set, arith}
use native.Mathlib.Decide.{ℕ_discrete}
use lib.ListN.{length-set}
use Rattle.std.proofs.Common.{get_or-set_same, get_or-set_other}
use Rattle.std.specs.List.{AllZip}

module _ {A B : Type 0} (f : A → B) (R : B → B → Type 0) (d : A) where
  -- the elements below i are filled in, the others are as they were
  pub record FilledBelow (i : ℕ) (before after : List A) : Type 0 where
    pub long : length after ≡ length before
    pub filled : (k : ℕ) → k < i → R (f (get_or before k d)) (f (get_or after k d))
    pub kept : (k : ℕ) → i ≤ k → get_or after k d ≡ get_or before k d

  pub none_filled : (xs : List A) → FilledBelow 0 xs xs
  none_filled xs = record { long = refl; filled = λ k l. absurd (omega arith); kept = λ k l. refl }

  pub one_more : {i : ℕ} {xs ys : List A} (y : A) → FilledBelow i xs ys → i < length xs → R (f (get_or xs i d)) (f y) → FilledBelow (i + 1) xs (set ys i y)
  one_more {i} {xs} {ys} y h l r =
      let inside : i < length ys = omega (arith, h.long) in
      record {
        long = simp length-set h.long;
        filled = λ k n.
            elim (ℕ_discrete k i) [
              | yes e ↦ let same = get_or-set_same ys i y d inside in rw (e, same) r
              | no ne ↦ let other = get_or-set_other ys i k y d ne in rw other (h.filled k (omega (arith, ne)))
            ];
        kept = λ k n. get_or-set_other ys i k y d (λ e. omega arith) ∙ h.kept k (omega arith);
      }

  each_filled : (xs ys : List A) → length ys ≡ length xs → ((k : ℕ) → k < length xs → R (f (get_or xs k d)) (f (get_or ys k d)))
      → AllZip R (map f xs) (map f ys)
  each_filled [] [] l h = tt
  each_filled [] (y ∷ ys) l h = absurd (omega (arith, l))
  each_filled (x ∷ xs) [] l h = absurd (omega (arith, l))
  each_filled (x ∷ xs) (y ∷ ys) l h = (h 0 (omega arith), each_filled xs ys (omega (arith, l)) (λ k n. h (suc k) (omega (arith, n))))

  pub all_filled : {i : ℕ} {xs ys : List A} → FilledBelow i xs ys → length xs ≤ i → AllZip R (map f xs) (map f ys)
  all_filled {i} {xs} {ys} h l = each_filled xs ys h.long (λ k n. h.filled k (omega (arith, l, n)))
