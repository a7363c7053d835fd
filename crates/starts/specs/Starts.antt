-- The members at which a chain may begin, as a walk sees them: of a member, 0 unseen, 1 waiting to be expanded, 2 expanded.
use Rattle.std.specs.Prelude.{ℕ, ◌≤◌, ◌<◌, ◌≡◌, List, ◌⊎◌, ◌↔◌, length, get_or}
use Rattle.model.specs.Graph.{Friends}
use Rattle.model.specs.Finding.{World, Allows}

-- the viewer and its friends wait, and nobody else
pub record Begun (w : World) (v : ℕ) (seen : List ℕ) : Type 0 where
  pub long : length seen ≡ 256
  pub low : (k : ℕ) → k < w.graph.members → get_or seen k 0 ≤ 1
  pub exactly : (k : ℕ) → k < w.graph.members → (1 ≤ get_or seen k 0) ↔ ((k ≡ v) ⊎ Friends w.graph v k)

-- of the members below i, of n in all, those of a set are seen: the unseen of them wait, and all else stays
pub record StartsAdded (n : ℕ) (Of : ℕ → Type 0) (before : List ℕ) (i : ℕ) (after : List ℕ) : Type 0 where
  pub long : length after ≡ 256
  pub added : (k : ℕ) → k < i → Of k → 1 ≤ get_or after k 0
  pub each : (k : ℕ) → k < n → (get_or after k 0 ≡ get_or before k 0) ⊎ ((get_or before k 0 ≡ 0) × (get_or after k 0 ≡ 1) × Of k)

-- the set of those whose search setting admits the viewer
abbrev pub SearchAdded : World → ℕ → List ℕ → ℕ → List ℕ → Type 0
SearchAdded w v before i after = StartsAdded w.graph.members (λ k. Allows w k 0 v) before i after
