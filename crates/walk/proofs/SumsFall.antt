-- A sum over the numbers below n falls where one addend falls and none rises.
use Prim.Native.Nat.{ℕ, zero, suc, ◌+◌, ◌<◌, ◌≤◌}
use mathlib.Core.Path.{subst}
use mathlib.Core.Logic.{⊎_elim}
use native.Mathlib.Nat.{eq-or-lt_of_le, le_of_suc-le-suc}
use native.Mathlib.Omega.{arith}

unfoldable pub sum_below : (ℕ → ℕ) → ℕ → ℕ
sum_below f zero = 0
sum_below f (suc n) = sum_below f n + f n

module _ (f g : ℕ → ℕ) where
  none_rises : (n : ℕ) → ((k : ℕ) → k < n → f k ≤ g k) → sum_below f n ≤ sum_below g n
  unfolding sum_below
  none_rises zero h = omega arith
  none_rises (suc n) h = omega (arith, none_rises n (λ k l. h k (omega arith)), h n (omega arith))

  pub one_falls : (n m : ℕ) → m < n → f m < g m → ((k : ℕ) → k < n → f k ≤ g k) → sum_below f n < sum_below g n
  unfolding sum_below
  one_falls zero m l d h = omega arith
  one_falls (suc n) m l d h =
      ⊎_elim
      (λ e. omega (arith, none_rises n (λ k l. h k (omega arith)), subst (λ (k : ℕ). f k < g k) e d))
      (λ lt. omega (arith, one_falls n m lt d (λ k l. h k (omega arith)), h n (omega arith)))
      (eq-or-lt_of_le (le_of_suc-le-suc l))
