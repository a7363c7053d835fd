-- What the parts of the fresh network leave.
use Rattle.std.specs.Prelude.{ℕ, ◌+◌, ◌*◌, ◌<◌, ◌≡◌, List, length}
use Rattle.model.specs.Bytes.{byte}
use Rattle.model.specs.Scheme.{Scheme, lowest}

-- the fresh settings of one member
abbrev pub MemberFresh : Scheme → List ℕ → Type 0
MemberFresh c settings = (r : ℕ) → r < length settings → byte settings r ≡ lowest (c.mask r)

-- from a place on stand the fresh settings of each member; the bytes below it are as they were
pub record AllFilled (c : Scheme) (before : List ℕ) (from members resources : ℕ) (after : List ℕ) : Type 0 where
  pub long : length after ≡ length before
  pub settings : (m r : ℕ) → m < members → r < resources → byte after (from + (m * resources + r)) ≡ lowest (c.mask r)
  pub below : (k : ℕ) → k < from → byte after k ≡ byte before k
