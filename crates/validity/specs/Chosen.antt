-- The policies that a resource's settings choose.
use Rattle.std.specs.Prelude.{ℕ, ◌+◌, ◌*◌, ◌<◌, ◌≡◌, true, List}
use Rattle.model.specs.Bytes.{bit, byte}
use Rattle.tables.specs.Schemes.{scheme_in}
use Rattle.tables.specs.declared.reading.Scheme.{Scheme}

-- as a set: those of the first members, the first at a place and each next a stride further, and no others
pub record Chosen (s : List ℕ) (first stride members set : ℕ) : Type 0 where
  pub has : (m : ℕ) → m < members → bit set (byte s (first + m * stride)) ≡ true
  pub only : (p : ℕ) → bit set p ≡ true → (m : ℕ) × (m < members) × (byte s (first + m * stride) ≡ p)

-- each member's setting for a resource is in its mask, in the settings member by member
abbrev pub ColumnOffered : Scheme → List ℕ → ℕ → Type 0
ColumnOffered scheme settings r =
    (m : ℕ) → m < scheme.counts.members → bit ((scheme_in scheme).mask r) (byte settings (m * (2 + scheme.counts.primitives + scheme.counts.items) + r)) ≡ true

abbrev pub Offered : Scheme → List ℕ → Type 0
Offered scheme settings = (r : ℕ) → r < 2 + scheme.counts.primitives + scheme.counts.items → ColumnOffered scheme settings r
