-- What the reads of a network rest on.
use Rattle.std.specs.Prelude.{ℕ, List}
use Rattle.model.specs.Finding.{World}
use Rattle.model.specs.Graph.{Graph}
use Rattle.model.specs.Network.{held, Valid, world}
use Rattle.model.specs.SchemeBytes.{scheme_of, Accepted}
use Rattle.tables.specs.Read.{CountsOf, MarksOf}
use Rattle.tables.specs.declared.counts.Summary.{Summary}

-- the scheme is accepted, c holds what is read once of it, and the network passes 5
pub record Ready (b : List ℕ) (c : Summary) (net : List ℕ) : Type 0 where
  pub accepted : Accepted b
  pub counts : CountsOf b c
  pub marks : MarksOf b c.states c.marks
  pub valid : Valid (scheme_of b) net

-- what requests are judged on
abbrev pub world_of : List ℕ → List ℕ → World
world_of b net = world (scheme_of b) (held (scheme_of b) net)

abbrev pub graph_of : List ℕ → List ℕ → Graph
graph_of b net = (world_of b net).graph
