-- Finding (docs/reference.md, "Finding").
use Rattle.std.specs.Prelude.{ℕ, ◌<◌, ◌≡◌, List, ◌⊎◌}
use Rattle.model.specs.Graph.{Graph, Friends, Onward}
use Rattle.model.specs.Policies.{Policy, Admits}

-- what finding reads: the graph, and each member's search and traversal policy
pub record Paths : Type 0 where
  pub graph : Graph
  pub search : ℕ → Policy
  pub traversal : ℕ → Policy

module _ (p : Paths) (v : ℕ) where
  -- who may stand in a chain: a member
  abbrev pub Stands : ℕ → Type 0
  Stands m = m < p.graph.members

  -- the first is v, or a friend of v, or one whose search setting admits v
  abbrev pub Begins : ℕ → Type 0
  Begins m = Stands m × ((m ≡ v) ⊎ Friends p.graph v m ⊎ Admits p.graph (p.search m) m v)

  -- each next is a friend of the one before; each but the last has a traversal setting that admits v
  abbrev pub Goes : ℕ → ℕ → Type 0
  Goes m x = Stands x × Friends p.graph m x × Admits p.graph (p.traversal m) m v

  -- there is such a list, m its first, that ends in u
  abbrev pub Chain : ℕ → Type 0
  Chain u = (m : ℕ) × (l : List ℕ) × Begins m × Onward Goes m l u

-- a graph, and each member's policy for each resource
pub record World : Type 0 where
  pub graph : Graph
  pub setting : ℕ → ℕ → Policy

-- resource 0 is search, 1 traversal
abbrev pub paths : World → Paths
paths w = record { graph = w.graph; search = λ m. w.setting m 0; traversal = λ m. w.setting m 1 }

-- v finds u
abbrev pub Finds : World → ℕ → ℕ → Type 0
Finds w v u = Chain (paths w) v u

-- u's setting for resource r admits v
abbrev pub Allows : World → ℕ → ℕ → ℕ → Type 0
Allows w u r v = Admits w.graph (w.setting u r) u v
