-- Flags added to columns.
use Prim.Native.Nat.{ℕ, ◌+◌, ◌*◌, ◌%◌, ◌^◌, ◌≤◌, ◌<◌}
use mathlib.Core.Path.{◌≡◌, ap, ◌∙◌}
use mathlib.Core.Bool.{Bool, true, false}
use mathlib.Core.List.{List}
use mathlib.Core.Logic.{inl, inr, ⊎_elim}
use native.Mathlib.Omega.{arith}
use native.Mathlib.Decide.{dec_lt}
use lib.Bits.{bit_or, or_zero_r}
use lib.ListN.{get_or, set}
use Rattle.model.specs.Bytes.{NoBitFrom}
use Rattle.model.proofs.Sets.{Built, Added, added, left_out, built_more}
use Rattle.friend_flags.specs.Flags.{flag}
use Rattle.columns.specs.Columns.{FlagsAdded, Columns}

-- a flag for each member
abbrev pub FlagsOf : (ℕ → Bool) → List ℕ → Type 0
FlagsOf f flags = (m : ℕ) → m < 256 → get_or flags m 0 ≡ flag (f m)

-- nothing is added where no flag is
pub added_rest : {flags columns columns' : List ℕ} {t from m end : ℕ} → ((k : ℕ) → m ≤ k → get_or flags k 0 ≡ 0) → m ≤ end
    → FlagsAdded flags t from m columns columns'
    → FlagsAdded flags t from end columns columns'
added_rest {flags} {columns} {columns'} {t} {from} {m} {end} none a f = record {
  long = f.long;
  each = λ k i l. each k i l (dec_lt k m);
  kept = λ k o. f.kept k (⊎_elim (λ x. inl x) (λ x. inr (omega arith)) o);
}
  where
    each : (k : ℕ) → from ≤ k → k < end → Dec (k < m) → get_or columns' k 0 ≡ bit_or (get_or columns k 0) (get_or flags k 0 * 2 ^ t % 2 ^ 8)
    each k i l (yes x) = f.each k i x
    each k i l (no x) =
        let z : get_or flags k 0 * 2 ^ t % 2 ^ 8 ≡ 0 = ap (λ (y : ℕ). y * 2 ^ t % 2 ^ 8) (none k (omega arith)) ∙ omega arith in
        f.kept k (inr (omega arith)) ∙ rw (z, or_zero_r (get_or columns k 0))

flag_added : (b : Bool) (set t : ℕ) → t < 8 → NoBitFrom t set → Added set t b (bit_or set (flag b * 2 ^ t % 2 ^ 8))
flag_added true set t h n = added 8 set t h n
flag_added false set t h n = let e : flag false * 2 ^ t % 2 ^ 8 ≡ 0 = omega arith in rw (e, or_zero_r set) (left_out set t n)

pub columns_more : (f : ℕ → ℕ → Bool) (flags columns columns' : List ℕ) (t : ℕ) → t < 8 → FlagsOf (λ m. f m t) flags → Columns f t columns
    → FlagsAdded flags t 0 256 columns columns'
    → Columns f (t + 1) columns'
columns_more f flags columns columns' t h flagged c g = record { long = g.long ∙ c.long; each = each }
  where
    each : (m : ℕ) → m < 256 → Built (f m) (t + 1) (get_or columns' m 0)
    each m l =
        built_more (f m) t (get_or columns m 0) (get_or columns' m 0) (c.each m l)
        (rw (g.each m (omega arith) l ∙ ap (λ (x : ℕ). bit_or (get_or columns m 0) (x * 2 ^ t % 2 ^ 8)) (flagged m l)) (flag_added (f m t) (get_or columns m 0) t h (c.each m l).none_above))
