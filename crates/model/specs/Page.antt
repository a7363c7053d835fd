-- A page: the first c, in an order, of the numbers that suit (docs/reference.md, "Suggestions").
use Rattle.std.specs.Prelude.{ℕ, ◌≤◌, ◌≡◌, List, [], ◌∷◌, ◌⊎◌, length}
use Rattle.model.specs.Graph.{Among}

-- a strict order in which of two different numbers one stands before the other
pub record Strict (Before : ℕ → ℕ → Type 0) : Type 0 where
  pub irreflexive : (x : ℕ) → Before x x → ⊥
  pub transitive : (x y z : ℕ) → Before x y → Before y z → Before x z
  pub total : (x y : ℕ) → (x ≡ y → ⊥) → Before x y ⊎ Before y x

abbrev pub All : (ℕ → Type 0) → List ℕ → Type 0
All P [] = Unit {0}
All P (x ∷ l) = P x × All P l

-- each stands before all that follow it
abbrev pub Ordered : (ℕ → ℕ → Type 0) → List ℕ → Type 0
Ordered Before [] = Unit {0}
Ordered Before (x ∷ l) = All (Before x) l × Ordered Before l

-- the first c of those that suit
pub record FirstOf (Before : ℕ → ℕ → Type 0) (Suits : ℕ → Type 0) (c : ℕ) (l : List ℕ) : Type 0 where
  pub ordered : Ordered Before l
  pub suit : All Suits l
  pub fits : length l ≤ c
  -- whoever suits and is left out stands later than each of the c that are there
  pub left_out : (m : ℕ) → Suits m → (Among m l → ⊥) → (length l ≡ c) × All (λ x. Before x m) l
