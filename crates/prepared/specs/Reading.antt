-- What the policies of a scheme read.
use Rattle.std.specs.Prelude.{ℕ, ◌≤◌, ◌<◌, ◌≡◌, List, ◌⊎◌}
use Rattle.model.specs.Policies.{within}
use Rattle.model.specs.SchemeBytes.{scheme_of}
use Rattle.rules.specs.Rules.{kind_of}

-- k is the greatest of the first count policies of kind within, and 0 where there is none
pub record Farthest (b : List ℕ) (count k : ℕ) : Type 0 where
  pub small : k ≤ 255
  pub most : (p j : ℕ) → p < count → (scheme_of b).policy p ≡ within j → (1 ≤ j) × (j ≤ k)
  pub one : (k ≡ 0) ⊎ ((p : ℕ) × (p < count) × ((scheme_of b).policy p ≡ within k))

-- one of the policies from a number on, below the count, is of that kind
abbrev pub SomeOfKind : ℕ → List ℕ → ℕ → ℕ → Type 0
SomeOfKind kind b from count = (p : ℕ) × (from ≤ p) × (p < count) × (kind_of ((scheme_of b).policy p) ≡ kind)
