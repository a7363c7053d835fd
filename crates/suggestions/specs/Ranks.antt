-- The rank of a member: its shared friends with the one who asks, where it may be suggested.
use Rattle.std.specs.Prelude.{ℕ, ◌≤◌, ◌<◌, ◌≡◌, List, Option, IfSome, length, get_or}
use Rattle.std.specs.Borrow.{Bor}
use Rattle.model.specs.Graph.{shared}
use Rattle.model.specs.Finding.{World}
use Rattle.model.specs.Suggestions.{Suggestible}
use Rattle.finding.specs.Everyone.{Everyone}
use Rattle.nearby.specs.Near.{Near}
use Rattle.network.specs.Worlds.{world_in}
use Rattle.sets.specs.Rows.{FriendRow, PersonRow, AllRows}
use Rattle.suggestions.specs.declared.Sources.{Sources as Held}

-- what v's ranks are read from: whom v finds, who is near, v's friends, the persons, and a table of all rows, if there is one
pub record Sources (w : World) (v : ℕ) (found near friends persons : List ℕ) (rows : Option (Bor (List (List ℕ)))) : Type 0 where
  pub all : Everyone w v found
  pub around : Near w.graph v near
  pub own : FriendRow w.graph v friends
  pub person_row : PersonRow w.graph persons
  pub table : IfSome rows (λ r. AllRows w.graph r.now)

abbrev pub Sound : Held → List ℕ → Type 0
Sound s found = Sources (world_in s.world) s.v found s.near s.friends s.persons s.rows

-- r is how many friends m shares with v; 0 where m may not be suggested to v
pub record Ranked (w : World) (v m r : ℕ) : Type 0 where
  pub may : 1 ≤ r → Suggestible w v m
  pub counted : Suggestible w v m → r ≡ shared w.graph v m

-- the members below i have their ranks, all others have none
pub record RanksBelow (w : World) (v i : ℕ) (ranks : List ℕ) : Type 0 where
  pub long : length ranks ≡ 256
  pub each : (m : ℕ) → m < i → Ranked w v m (get_or ranks m 0)
  pub none : (m : ℕ) → i ≤ m → get_or ranks m 0 ≡ 0
