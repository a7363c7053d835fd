-- Flags, a byte for each: 1 for yes, 0 for no.
use Rattle.std.specs.Prelude.{ℕ, ◌+◌, ◌%◌, ◌≤◌, ◌<◌, ◌≡◌, Bool, true, false, List, length, get_or}
use Rattle.model.specs.Bytes.{digit, bit, NoBitFrom}

abbrev pub flag : Bool → ℕ
flag true = 1
flag false = 0

-- the first count flags tell what a test says of each state; the others stay
pub record Told (Says : ℕ → Bool → Type 0) (states : List ℕ) (count : ℕ) (before after : List ℕ) : Type 0 where
  pub long : length after ≡ length before
  pub each : (k : ℕ) → k < count → (t : Bool) × Says (get_or states k 0) t × (get_or after k 0 ≡ flag t)
  pub kept : (k : ℕ) → count ≤ k → get_or after k 0 ≡ get_or before k 0

-- the first count flags tell which pair bytes from a place on have a marked state; the others stay
pub record Flagged (net : List ℕ) (marks at count : ℕ) (before after : List ℕ) : Type 0 where
  pub long : length after ≡ length before
  pub each : (k : ℕ) → k < count → get_or after k 0 ≡ flag (bit marks (get_or net (at + k) 0 % 32))
  pub kept : (k : ℕ) → count ≤ k → get_or after k 0 ≡ get_or before k 0

-- r has the flags from a place on as its first count bits, and no other bit
pub record Packed (flags : List ℕ) (at count r : ℕ) : Type 0 where
  pub digits : (k : ℕ) → k < count → digit r k ≡ get_or flags (at + k) 0
  pub none_above : NoBitFrom count r
