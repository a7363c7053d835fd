-- Schemes (docs/reference.md, "Scheme").
use Rattle.std.specs.Prelude.{ℕ, zero, suc, ◌+◌, Bool, cond}
use Rattle.model.specs.Bytes.{bit}
use Rattle.model.specs.Policies.{Policy}

pub record Scheme : Type 0 where
  pub members : ℕ
  pub states : ℕ
  pub primitives : ℕ
  pub items : ℕ
  -- kind 2: the next state for state q, side b, primitive a; 255 is undefined
  pub move : ℕ → ℕ → ℕ → ℕ
  -- kind 3: whether the state makes a pair friends
  pub friendly : ℕ → Bool
  -- kind 4: the policy of a number
  pub policy : ℕ → Policy
  -- kind 5: the policies that may be chosen for a resource, bit p for policy p
  pub mask : ℕ → ℕ
  -- kind 6: whether the member is a group and no person
  pub group : ℕ → Bool

-- what a setting is for
pub data Resource : Type 0 where
  search traversal : Resource
  primitive item : ℕ → Resource

-- a resource's number, where there are A primitives
abbrev pub resource_number : ℕ → Resource → ℕ
resource_number A search = 0
resource_number A traversal = 1
resource_number A (primitive a) = 2 + a
resource_number A (item o) = 2 + A + o

abbrev pub resources : Scheme → ℕ
resources c = 2 + c.primitives + c.items

-- the lowest p with bit p, at or above the given one and of as many as are left; 0 where there is none
unfoldable pub lowest_from : ℕ → ℕ → ℕ → ℕ
lowest_from x p zero = 0
lowest_from x p (suc left) = cond (bit x p) p (lowest_from x (suc p) left)

-- the lowest policy number in a mask
abbrev pub lowest : ℕ → ℕ
lowest x = lowest_from x 0 32
