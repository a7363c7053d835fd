-- Who may share a friend with a member.
use Rattle.std.specs.Prelude.{ℕ, ◌≤◌, ◌<◌, List}
use Rattle.model.specs.Graph.{Graph, Friends, shared}
use Rattle.sets.specs.Sets.{Has}

-- the set has every friend of some members
pub record FriendsOf (g : Graph) (some set : List ℕ) : Type 0 where
  pub has : (x m : ℕ) → x < g.members → m < g.members → Has some x → Friends g x m → Has set m

-- the set has every member that shares a friend with v
pub record Near (g : Graph) (v : ℕ) (set : List ℕ) : Type 0 where
  pub has : (m : ℕ) → m < g.members → 1 ≤ shared g v m → Has set m
