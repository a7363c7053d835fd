-- The mutual friends that a set holds.
use Rattle.std.specs.Prelude.{ℕ, ◌≤◌, ◌<◌, ◌≡◌, Bool, true, List, [], length, get_or}
use Rattle.model.specs.Graph.{Graph, Mutual, Among}
use Rattle.sets.specs.Rows.{AllRows}
use Rattle.sets.specs.Sets.{Has}
use Rattle.clique.specs.Cliques.{Undirected, LargestClique}

-- the set has j different members, none below from, that are all friends of each other
pub record Holds (g : Graph) (set : List ℕ) (from j : ℕ) : Type 0 where
  pub list : List ℕ
  pub long : length list ≡ j
  pub friends : Mutual g list
  pub inside : (m : ℕ) → Among m list → Has set m × (from ≤ m)

-- whether the set has j mutual members: yes only where it does, and yes where it does with none of them below from
pub record Tells (g : Graph) (set : List ℕ) (from j : ℕ) (answer : Bool) : Type 0 where
  pub sound : answer ≡ true → Holds g set 0 j
  pub complete : Holds g set from j → answer ≡ true

-- the rows are those of the graph
pub record RowsOf (g : Graph) (rows : List (List ℕ)) : Type 0 where
  pub each : AllRows g rows
  pub few : g.members ≤ 256
  pub undirected : Undirected g

-- the number of members, at most 5, of the largest clique with u and v, where they are two, in every graph with these rows; 1 of one
pub record CliqueSize (rows : List (List ℕ)) (u v size : ℕ) : Type 0 where
  pub some : 1 ≤ size
  pub most : size ≤ 5
  pub largest : (g : Graph) → RowsOf g rows → u < g.members → v < g.members → (u ≡ v → ⊥) → LargestClique g u v size
  pub alone : (g : Graph) → RowsOf g rows → u < g.members → u ≡ v → size ≡ 1

-- the set has members only
abbrev pub Inside : Graph → List ℕ → Type 0
Inside g set = (m : ℕ) → Has set m → m < g.members

-- the answer tells so of every graph with these rows
pub record TellsEach (rows : List (List ℕ)) (set : List ℕ) (from j : ℕ) (answer : Bool) : Type 0 where
  pub tells : (g : Graph) → RowsOf g rows → Inside g set → Tells g set from j answer

-- r has all friends of the set's members at or above from and below to, and friends of its members only
pub record FriendsOf (rows : List (List ℕ)) (set : List ℕ) (from to : ℕ) (r : List ℕ) : Type 0 where
  pub each : (x y : ℕ) → from ≤ x → x < to → Has set x → Has (get_or rows x []) y → Has r y
  pub only : (y : ℕ) → Has r y → (x : ℕ) × Has set x × Has (get_or rows x []) y
