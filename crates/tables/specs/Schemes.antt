-- The scheme that a struct holds.
use Rattle.std.specs.Prelude.{ℕ, ◌+◌, ◌≤◌, ◌≡◌, List, Option, None, Some, length, get_or, drop}
use Rattle.model.specs.Graph.{one}
use Rattle.model.specs.Requests.{Defined}
use Rattle.model.specs.Scheme.{Scheme}
use Rattle.model.specs.SchemeBytes.{at6, scheme_of}
use Rattle.tables.specs.declared.reading.Scheme.{Scheme as Held}

-- document 01's
abbrev pub scheme_in : Held → Scheme
scheme_in s = scheme_of s.bytes.now

-- the next state that a table's byte says; none where it says 255
abbrev pub StateOf : ℕ → Option ℕ → Type 0
StateOf byte (Some q) = (q ≡ byte) × Defined q
StateOf byte None = byte ≡ 255

-- the body of kind 6: who is a group, 1 for each group; nothing where there is no sixth record
pub record GroupBytes (s : Held) (bytes : List ℕ) : Type 0 where
  pub body : bytes ≡ drop (at6 s.bytes.now + 4) s.bytes.now
  pub each : (m : ℕ) → get_or bytes m 0 ≡ one ((scheme_in s).group m)
  pub few : length bytes ≤ (scheme_in s).members
