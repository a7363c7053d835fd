-- A column put into its member's row.
use Prim.Native.Nat.{ℕ, ◌+◌, ◌*◌, ◌/◌, ◌%◌, ◌^◌, ◌≤◌, ◌<◌}
use mathlib.Core.Path.{◌≡◌, sym, ap, ◌∙◌}
use mathlib.Core.Bool.{Bool, ◌||◌}
use mathlib.Core.List.{List}
use native.Mathlib.Decide.{ℕ_discrete}
use native.Mathlib.Omega.{arith}
use lib.Bits.{bit_or}
use lib.ListN.{length, get_or, set}
use lib.Seq.{get_or-set_same, get_or-set_other}
use Rattle.model.specs.Bytes.{bit}
use Rattle.friend_flags.proofs.Packing.{or_low, or_high, or_above}
use Rattle.sets.specs.Rows.{row_bit}
use Rattle.columns.specs.Columns.{ByteAdded}

module _ (row : List ℕ) (from byte : ℕ) (long : length row ≡ 4) (first : from < 256) (whole : from % 8 ≡ 0) (small : byte < 256) where
  abbrev old : ℕ
  old = get_or row (from / 64) 0

  abbrev word : ℕ
  word = bit_or old (byte * 2 ^ (from % 64) % 2 ^ 64)

  abbrev row' : List ℕ
  row' = set row (from / 64) word

  changed : (p : ℕ) → p / 64 ≡ from / 64 → row_bit row' p ≡ bit word (p % 64)
  changed p e = ap (λ (x : ℕ). bit x (p % 64)) (ap (λ (k : ℕ). get_or row' k 0) e ∙ get_or-set_same row (from / 64) word 0 (omega arith))

  stood : (p : ℕ) → p / 64 ≡ from / 64 → bit old (p % 64) ≡ row_bit row p
  stood p e = ap (λ (k : ℕ). bit (get_or row k 0) (p % 64)) (sym e)

  same : (p : ℕ) → (p / 64 ≡ from / 64 → ⊥) → row_bit row' p ≡ row_bit row p
  same p n = ap (λ (x : ℕ). bit x (p % 64)) (get_or-set_other row _ _ _ 0 n)

  pub byte_added : ByteAdded row from byte row'
  byte_added = record { here = here; below = λ p h. below p h (ℕ_discrete (p / 64) (from / 64)); above = λ p h. above p h (ℕ_discrete (p / 64) (from / 64)) }
    where
      here : (t : ℕ) → t < 8 → row_bit row' (from + t) ≡ (row_bit row (from + t) || bit byte t)
      here t h =
          let e : (from + t) / 64 ≡ from / 64 = omega arith in
          let r : (from + t) % 64 ≡ from % 64 + t = omega arith in
          changed (from + t) e
          ∙ ap (bit word) r
          ∙ or_high old byte (from % 64) small (omega arith) t h
          ∙ ap (λ (x : Bool). x || bit byte t) (ap (bit old) (sym r) ∙ stood (from + t) e)

      below : (p : ℕ) → p < from → Dec (p / 64 ≡ from / 64) → row_bit row' p ≡ row_bit row p
      below p h (yes e) = changed p e ∙ or_low old byte (from % 64) small (omega arith) (p % 64) (omega (arith, e)) ∙ stood p e
      below p h (no n) = same p n

      above : (p : ℕ) → from + 8 ≤ p → Dec (p / 64 ≡ from / 64) → row_bit row' p ≡ row_bit row p
      above p h (yes e) = changed p e ∙ or_above old byte (from % 64) small (omega arith) (p % 64) (omega (arith, e)) ∙ stood p e
      above p h (no n) = same p n
