-- Bytes, the numbers and records that they hold, and bits (docs/reference.md, "Records").
use Rattle.std.specs.Prelude.{ℕ, ◌+◌, ◌*◌, ◌/◌, ◌%◌, ◌^◌, ◌≤◌, ◌≡◌, Bool, false, List, eqb, length, get_or}

module _ (b : List ℕ) where
  abbrev pub byte : ℕ → ℕ
  byte k = get_or b k 0

  -- little-endian numbers of 2 and 4 bytes
  abbrev pub two : ℕ → ℕ
  two k = byte k + 256 * byte (k + 1)

  abbrev pub four : ℕ → ℕ
  four k = two k + 65536 * two (k + 2)

  -- at k stands a whole record of this kind: a 2-byte body length, a 2-byte kind, the body
  abbrev pub RecordAt : ℕ → ℕ → ℕ → Type 0
  RecordAt k kind size = (k + 4 + size ≤ length b) × (two k ≡ size) × (two (k + 2) ≡ kind)

-- bit p of x, as 0 or 1
abbrev pub digit : ℕ → ℕ → ℕ
digit x p = x / 2 ^ p % 2

-- whether bit p of x is set: p is in the set x
abbrev pub bit : ℕ → ℕ → Bool
bit x p = eqb (digit x p) 1

-- no bit at or above p
abbrev pub NoBitFrom : ℕ → ℕ → Type 0
NoBitFrom p x = (q : ℕ) → p ≤ q → bit x q ≡ false
