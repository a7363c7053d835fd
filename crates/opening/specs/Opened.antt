-- The scheme check, 5 and 6, with which the calls begin.
use Rattle.std.specs.Prelude.{ℕ, ◌<◌, ◌≡◌, List, [], ◌∷◌, ◌++◌, Result, Ok, Err}
use Rattle.model.specs.Answers.{Requirement, Answers}
use Rattle.model.specs.Calls.{open_needs}
use Rattle.model.specs.Requests.{BothMembers}
use Rattle.model.specs.SchemeBytes.{scheme_of}
use Rattle.refusals.specs.Numbers.{number}
use Rattle.refusals.specs.declared.Refusal.{Refusal}
use Rattle.network.specs.Worlds.{members_in}
use Rattle.network.specs.declared.world.World.{World}

-- the scheme check, 5, and 6 for a call of member v about member u
abbrev pub member_needs : List ℕ → List ℕ → ℕ → ℕ → List Requirement
member_needs b net v u = open_needs b net ++ (6, BothMembers (scheme_of b) v u) ∷ []

-- the world is of these bytes
pub record WorldOfBytes (b net : List ℕ) (w : World) : Type 0 where
  pub scheme : w.scheme.bytes.now ≡ b
  pub network : w.network.now ≡ net

-- the world of an accepted scheme whose network passes 5, or the first refusal that applies
abbrev pub Begun : List ℕ → List ℕ → Result World Refusal → Type 0
Begun b net (Ok w) = WorldOfBytes b net w
Begun b net (Err refusal) = Answers (open_needs b net) (number refusal)

-- the world is of these bytes and has both members
pub record WorldOf (b net : List ℕ) (v u : ℕ) (w : World) : Type 0 where
  pub scheme : w.scheme.bytes.now ≡ b
  pub network : w.network.now ≡ net
  pub viewer : v < members_in w
  pub other : u < members_in w

-- v and u are members, or 6 is answered
abbrev pub Members : World → ℕ → ℕ → Result (Unit {0}) Refusal → Type 0
Members w v u (Ok tt) = (v < members_in w) × (u < members_in w)
Members w v u (Err refusal) = Answers (member_needs w.scheme.bytes.now w.network.now v u) (number refusal)

-- the world of an accepted scheme whose network passes 5 and has both members, or the first refusal that applies
abbrev pub Opened : List ℕ → List ℕ → ℕ → ℕ → Result World Refusal → Type 0
Opened b net v u (Ok w) = WorldOf b net v u w
Opened b net v u (Err refusal) = Answers (member_needs b net v u) (number refusal)
