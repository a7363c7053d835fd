-- What policies read of an accessor.
use Rattle.std.specs.Prelude.{ℕ, ◌≤◌, ◌<◌, ◌≡◌, List, [], length, get_or}
use Rattle.model.specs.Policies.{within}
use Rattle.model.specs.SchemeBytes.{P, scheme_of}
use Rattle.network.specs.Ready.{graph_of}
use Rattle.sets.specs.Rows.{FriendRow, PersonRow, AllRows}
use Rattle.sets.specs.Sets.{RowPut}
use Rattle.row_table.specs.Filled.{RowsFilled}
use Rattle.distance.specs.Distances.{Distances}
use Rattle.prepared.specs.Reading.{Farthest, SomeOfKind}

-- the distances that policies read: those up to the farthest, or as they were
pub record Measured (b net : List ℕ) (v : ℕ) (distances distances' : List ℕ) : Type 0 where
  pub limit : ℕ
  pub farthest : Farthest b (P b) limit
  pub read : 1 ≤ limit → Distances (graph_of b net) v limit distances'
  pub unread : limit ≡ 0 → distances' ≡ distances

-- what depends on accessor v alone, as far as a policy of the scheme reads it: its distances for within, its friend row and the
-- persons for known, the rows of all members for clique
pub record Prepared (b net : List ℕ) (v : ℕ) (distances : List ℕ) (rows : List (List ℕ)) (persons : List ℕ) : Type 0 where
  pub distances_long : length distances ≡ 256
  pub rows_long : length rows ≡ 256
  pub near : (p k : ℕ) → p < P b → (scheme_of b).policy p ≡ within k → (limit : ℕ) × (k ≤ limit) × Distances (graph_of b net) v limit distances
  pub own_row : SomeOfKind 4 b 0 (P b) → FriendRow (graph_of b net) v (get_or rows v [])
  pub person_row : SomeOfKind 4 b 0 (P b) → PersonRow (graph_of b net) persons
  pub all_rows : SomeOfKind 5 b 0 (P b) → AllRows (graph_of b net) rows

-- what preparing leaves in the lent places: the distances up to the farthest policy, all rows where one is of kind clique, v's alone
-- and the persons where one is of kind known; what no policy reads is as it was
pub record Written (b net : List ℕ) (v : ℕ) (distances : List ℕ) (rows : List (List ℕ)) (persons : List ℕ) (distances' : List ℕ) (rows' : List (List ℕ)) (persons' : List ℕ) : Type 0 where
  pub limit : ℕ
  pub farthest : Farthest b (P b) limit
  pub distances_read : 1 ≤ limit → Distances (graph_of b net) v limit distances'
  pub distances_unread : limit ≡ 0 → distances' ≡ distances
  pub rows_all : SomeOfKind 5 b 0 (P b) → RowsFilled (graph_of b net) rows rows'
  pub row_own : (SomeOfKind 5 b 0 (P b) → ⊥) → SomeOfKind 4 b 0 (P b) → RowPut rows v (get_or rows' v []) rows'
  pub rows_unread : (SomeOfKind 5 b 0 (P b) → ⊥) → (SomeOfKind 4 b 0 (P b) → ⊥) → rows' ≡ rows
  pub persons_read : SomeOfKind 4 b 0 (P b) → PersonRow (graph_of b net) persons'
  pub persons_unread : (SomeOfKind 4 b 0 (P b) → ⊥) → persons' ≡ persons
