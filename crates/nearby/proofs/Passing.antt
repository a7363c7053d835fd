-- A loop over the members of a set.
use Prim.Native.Nat.{ℕ, ◌+◌, ◌<◌}
use mathlib.Core.Path.{◌≡◌, sym, ◌∙◌}
use mathlib.Core.Bool.{false≢true}
use mathlib.Core.List.{List}
use native.Mathlib.Decide.{ℕ_discrete, dec_lt}
use native.Mathlib.Omega.{arith}
use Rattle.sets.specs.Sets.{Has, FirstFrom}

-- the loop has passed the set's members below m: P holds of each
pub record Passed (set : List ℕ) (m : ℕ) (P : ℕ → Type 0) : Type 0 where
  pub each : (k : ℕ) → k < m → Has set k → P k

module _ {set : List ℕ} {from r : ℕ} {P : ℕ → Type 0} (f : FirstFrom set from r) where
  pub passed_to : Passed set from P → Passed set r P
  passed_to p = record { each = λ k b h. go k b h (dec_lt k from) }
    where
      go : (k : ℕ) → k < r → Has set k → Dec (k < from) → P k
      go k b h (yes d) = p.each k d h
      go k b h (no d) = absurd (false≢true (sym (f.none k (omega arith) b) ∙ h))

  pub passed_one : Passed set from P → P r → Passed set (r + 1) P
  passed_one p here = record { each = λ k b h. go k b h (ℕ_discrete k r) }
    where
      go : (k : ℕ) → k < r + 1 → Has set k → Dec (k ≡ r) → P k
      go k b h (yes e) = rw e here
      go k b h (no n) = (passed_to p).each k (omega arith) h
