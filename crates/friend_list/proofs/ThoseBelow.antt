-- A list written place by place.
use Prim.Native.Nat.{ℕ, suc, ◌+◌, ◌<◌, ◌≤◌}
use mathlib.Core.Path.{◌≡◌, refl, sym, ◌∙◌, ap}
use mathlib.Core.Bool.{Bool, true, false, cond}
use mathlib.Core.List.{List, [], ◌∷◌, ◌++◌, append-nil}
use native.Mathlib.Numerals.{add-one}
use native.Mathlib.Omega.{arith}
use lib.ListN.{length, take, set, length-set}
use lib.Seq.{take-suc-set}
use Rattle.model.specs.Requests.{those}
use Rattle.model.specs.Calls.{FrontOnly}
use Rattle.model.proofs.Leaving.{front_more}

-- those of the first m members that pass a test stand at the front, at most m, in an output as long as it was
pub record ThoseBelow (f : ℕ → Bool) (out : List ℕ) (m count : ℕ) (after : List ℕ) : Type 0 where
  pub few : count ≤ m
  pub long : length after ≡ length out
  pub written : take count after ≡ those f m
  pub front : FrontOnly count out after

pub below_none : (f : ℕ → Bool) (out : List ℕ) → ThoseBelow f out 0 0 out
unfolding those
below_none f out = record { few = omega arith; long = refl; written = refl; front = record { within = omega arith; behind = refl } }

-- the next member of those that pass a test
those_more : (f : ℕ → Bool) (n : ℕ) (t : Bool) → f n ≡ t → those f (suc n) ≡ those f n ++ cond t (n ∷ []) []
unfolding those
those_more f n t e = rw e

-- t says whether m passes
module _ (f : ℕ → Bool) {out after : List ℕ} {m count : ℕ} (s : ThoseBelow f out m count after) {t : Bool} (e : t ≡ f m) where
  -- it passes, and is written
  pub below_with : t ≡ true → count < length out → ThoseBelow f out (m + 1) (count + 1) (set after count m)
  below_with y h =
      let room : count < length after = omega (arith, s.long) in
      record {
        few = omega (arith, s.few);
        long = simp length-set s.long;
        written = rw (add-one m, those_more f m true (sym e ∙ y), add-one count) (take-suc-set after count m room ∙ ap (λ (l : List ℕ). l ++ m ∷ []) s.written);
        front = front_more m room s.front;
      }

  pub below_without : t ≡ false → ThoseBelow f out (m + 1) count after
  below_without n = record {
    few = omega (arith, s.few);
    long = s.long;
    written = rw (add-one m, those_more f m false (sym e ∙ n), append-nil) s.written;
    front = s.front;
  }
