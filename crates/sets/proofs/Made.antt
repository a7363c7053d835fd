-- The elements that `array::from_fn` makes.
use Rattle.std.proofs.Common.{◌≡◌, ℕ, zero, suc, ◌+◌, ◌<◌, ◌≤◌, List, get_or, refl, arith}
use native.Mathlib.Decide.{ℕ_discrete}
use denote.Param.Members.{Mut, Called}
use Rattle.std.specs.Array.{IsFromFnResult, IsFromFnResultFrom}

-- what each call tells, of a closure that changes nothing
pub made_each : {F : Type 0} {g : Mut F (ℕ × Unit {0}) ℕ} {f : F} {ys : List ℕ} {n : ℕ} (P : ℕ → ℕ → Type 0)
    → ((x y : ℕ) (f' : F) → x < n → Called g f (x, tt) y f' → P x y × (f' ≡ f))
    → IsFromFnResult g f ys n
    → (i : ℕ) → i < n → P i (get_or ys i 0)
made_each {F} {g} {f} {ys} {n} P call made i l = go n 0 f (omega arith) refl made.each (omega arith) l
  where
    go : (m k : ℕ) (p : F) → k + m ≡ n → p ≡ f → IsFromFnResultFrom g p ys k m → k ≤ i → i < n → P i (get_or ys i 0)
    go zero k p e s r a b = absurd (omega arith)
    go (suc m) k p e s (q, y, (d, t), c, r) a b =
        let (h, z) = call k y q (omega arith) (rw s at c) in
        elim (ℕ_discrete k i) [ yes x ↦ rw (← x, t 0) h | no x ↦ go m (k + 1) q (omega arith) z r (omega arith) b ]
