-- What policies read of an owner and an accessor.
use Rattle.std.specs.Prelude.{ℕ, ◌≤◌, ◌<◌, ◌≡◌, List, ◌↔◌}
use Rattle.model.specs.Graph.{Graph, Within}
use Rattle.model.specs.Policies.{within}
use Rattle.model.specs.SchemeBytes.{scheme_of}
use Rattle.clique.specs.Cliques.{LargestClique}
use Rattle.distance_mark.specs.Mark.{AtMost}
use Rattle.known.specs.Acquainted.{Acquainted}
use Rattle.relation.specs.declared.Relation.{Relation}

-- what policies read of owner u and accessor v: the distance tells within k for each k asked; acquaintance and clique as far as asked
pub record Related (g : Graph) (u v : ℕ) (Near : ℕ → Type 0) (Known Sized : Type 0) (r : Relation) : Type 0 where
  pub near : (k : ℕ) → Near k → Within g k u v ↔ AtMost r.distance k
  pub acquainted : Known → Acquainted g u v r.acquaintance
  pub sized : Sized → (u ≡ v → ⊥) → LargestClique g u v r.clique

-- one of the policies from a number on, below the count, is within k
abbrev pub SomeWithin : List ℕ → ℕ → ℕ → ℕ → Type 0
SomeWithin b from count k = (p : ℕ) × (from ≤ p) × (p < count) × ((scheme_of b).policy p ≡ within k)
