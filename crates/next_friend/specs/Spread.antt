-- A mark for the friends of a member: of a place, 0 while it has none.
use Rattle.std.specs.Prelude.{ℕ, ◌<◌, ◌≤◌, ◌≡◌, List, ◌⊎◌, length, get_or}
use Rattle.model.specs.Graph.{Graph, Friends}

-- all members below r, of n, have a mark
pub record Marked (n : ℕ) (marks : List ℕ) (r : ℕ) : Type 0 where
  pub inside : r ≤ n
  pub below : (k : ℕ) → k < r → 0 < get_or marks k 0

-- of the tried pairs j, k: where k had no mark and is a friend of j it has this mark, and all else stays
pub record Spread (g : Graph) (Tried : ℕ → ℕ → Type 0) (mark : ℕ) (old new : List ℕ) : Type 0 where
  pub size : length new ≡ 256
  pub marked : (j k : ℕ) → j < g.members → k < g.members → Tried j k → Friends g k j → 0 < get_or new k 0
  pub each : (k : ℕ) → k < g.members
      → (get_or new k 0 ≡ get_or old k 0)
      ⊎ ((get_or old k 0 ≡ 0) × (get_or new k 0 ≡ mark) × ((j : ℕ) × (j < g.members) × Tried j k × Friends g k j))
  pub outside : (k : ℕ) → g.members ≤ k → get_or new k 0 ≡ get_or old k 0

-- the pairs of m and those from a member on, below an end
abbrev pub Run : ℕ → ℕ → ℕ → ℕ → ℕ → Type 0
Run m from end j k = (j ≡ m) × (from ≤ k) × (k < end)
