-- A word of a friend row.
use Rattle.std.specs.Prelude.{ℕ, ◌+◌, ◌<◌, ◌≡◌}
use Rattle.model.specs.Bytes.{bit, NoBitFrom}
use Rattle.model.specs.Graph.{Graph}

-- the first count bits of a word are u's friends from a member on; it has no other bit
pub record FirstBits (g : Graph) (u from count word : ℕ) : Type 0 where
  pub bits : (m : ℕ) → m < count → bit word m ≡ g.friends u (from + m)
  pub none_above : NoBitFrom count word
