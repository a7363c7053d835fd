-- What reading a number or a part of a case promises.
use Rattle.std.specs.Prelude.{ℕ, ◌≤◌, ◌≡◌, List, length, drop, Option, Result, Ok, Err}
use Rattle.std.specs.Int.{Width, byte_len, from_le_bytes}
use Rattle.std.specs.Io.KnownBytes.{Consumes}
use Rattle.cases.specs.declared.Stop.{Stop}

-- a number is that of the input's next bytes, the lowest first
abbrev pub NumberRead : Width → Option (List ℕ) → Option (List ℕ) → Result ℕ Stop → Type 0
NumberRead w before after (Ok n) = (bytes : List ℕ) × (length bytes ≡ byte_len w) × (n ≡ from_le_bytes w bytes) × Consumes before after bytes
NumberRead w before after (Err stop) = Unit {0}

-- the part is within a buffer of this many bytes
abbrev pub Within : Result ℕ Stop → ℕ → Type 0
Within (Ok n) size = n ≤ size
Within (Err stop) size = Unit {0}

-- no byte behind the part that was asked for is written, and none where the run stops
abbrev pub Kept : Result ℕ Stop → List ℕ → List ℕ → Type 0
Kept (Ok n) before after = (size : ℕ) × (n ≤ size) × (drop size after ≡ drop size before)
Kept (Err stop) before after = after ≡ before
