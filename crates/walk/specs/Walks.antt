-- A walk: of a member, 0 unseen, 1 waiting to be expanded, 2 expanded.
use Rattle.std.specs.Prelude.{ℕ, ◌≤◌, ◌<◌, ◌≡◌, Bool, true, false, List, Option, None, Some, length, get_or}
use Rattle.model.specs.Graph.{Graph, Friends}
use Rattle.model.specs.Finding.{World, paths, Goes, Finds}
use Rattle.starts.specs.Starts.{StartsAdded}

-- whom a walk looks for: the member named, or the number n of members, where it looks for nobody
abbrev pub sought : ℕ → Option ℕ → ℕ
sought n (Some u) = u
sought n None = n

-- nobody below i waits
abbrev pub NobodyWaits : ℕ → List ℕ → Type 0
NobodyWaits i seen = (k : ℕ) → k < i → get_or seen k 0 ≡ 1 → ⊥

-- everyone below i is seen
abbrev pub AllSeen : ℕ → List ℕ → Type 0
AllSeen i seen = (k : ℕ) → k < i → 1 ≤ get_or seen k 0

-- s is a member, and a friend of m
abbrev pub Met : Graph → ℕ → ℕ → Type 0
Met g m s = (s < g.members) × Friends g m s

-- of the members below i, the friends of m are seen: the unseen of them wait, but for s, and all else stays; below a member, at
-- most m, all stays
pub record Expanded (g : Graph) (m s : ℕ) (before : List ℕ) (i low : ℕ) (after : List ℕ) : Type 0 where
  pub added : StartsAdded g.members (λ k. Friends g m k) before i after
  pub least : low ≤ m
  pub same : (k : ℕ) → k < low → get_or after k 0 ≡ get_or before k 0
  pub passed : s < g.members → get_or before s 0 ≡ 0 → get_or after s 0 ≡ 0

-- whoever is seen is found, and all are seen to whom a chain goes on from an expanded member
pub record Walk (w : World) (v : ℕ) (seen : List ℕ) : Type 0 where
  pub long : length seen ≡ 256
  pub sound : (k : ℕ) → k < w.graph.members → 1 ≤ get_or seen k 0 → Finds w v k
  pub closed : (j k : ℕ) → j < w.graph.members → 2 ≤ get_or seen j 0 → Goes (paths w) v j k → 1 ≤ get_or seen k 0

-- no member's mark fell
abbrev pub NoMarkFell : World → List ℕ → List ℕ → Type 0
NoMarkFell w before after = (k : ℕ) → k < w.graph.members → get_or before k 0 ≤ get_or after k 0

-- u, if it is a member, is unseen
abbrev pub Unmet : World → ℕ → List ℕ → Type 0
Unmet w u seen = u < w.graph.members → get_or seen u 0 ≡ 0

-- a walk for u goes on, as long as it has not met u
pub record WalkFor (w : World) (v u : ℕ) (before seen : List ℕ) : Type 0 where
  pub walk : Walk w v seen
  pub kept : NoMarkFell w before seen
  pub unmet : Unmet w u seen

-- until no member is left to expand
pub record WalkEnded (w : World) (v u : ℕ) (before after : List ℕ) : Type 0 where
  pub walking : WalkFor w v u before after
  pub nobody : NobodyWaits w.graph.members after

-- a walk for u met u, or ended without
pub record Walked (w : World) (v u : ℕ) (before after : List ℕ) (met : Bool) : Type 0 where
  pub found : met ≡ true → Finds w v u
  pub ended : met ≡ false → WalkEnded w v u before after
