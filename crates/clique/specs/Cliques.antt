-- The largest clique with two members.
use Rattle.std.specs.Prelude.{ℕ, ◌≤◌, ◌≡◌, false, ◌↔◌}
use Rattle.model.specs.Graph.{Graph, Clique}

-- friendship goes both ways, and nobody is its own friend
pub record Undirected (g : Graph) : Type 0 where
  pub both_ways : (a b : ℕ) → g.friends a b ≡ g.friends b a
  pub none_own : (a : ℕ) → g.friends a a ≡ false

-- of the cliques of 2 to 5 members with u and v among them, those of at most so many members exist
abbrev pub LargestClique : Graph → ℕ → ℕ → ℕ → Type 0
LargestClique g u v largest = (k : ℕ) → 2 ≤ k → k ≤ 5 → (k ≤ largest) ↔ Clique g k u v
