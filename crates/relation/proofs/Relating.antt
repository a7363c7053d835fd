-- What is known of an owner and an accessor.
use Prim.Native.Nat.{ℕ, ◌≤◌, ◌<◌}
use mathlib.Core.Path.{◌≡◌, refl, sym, ◌∙◌}
use mathlib.Core.Bool.{Bool, true, false, ◌&&◌, true≢false, false≢true}
use native.Mathlib.Decide.{dec_lt}
use mathlib.Core.List.{List, [], ◌∷◌}
use mathlib.Core.Logic.{◌↔◌}
use native.Mathlib.Omega.{arith}
use lib.ListN.{get_or}
use Rattle.model.specs.Graph.{Graph, Friends, Within}
use Rattle.distance.specs.Distances.{Distances}
use Rattle.distance.proofs.ReadMarks.{read_distance}
use Rattle.distance_mark.specs.Mark.{distance_at, AtMost}
use Rattle.std.specs.Prelude.{Option, Some}
use Rattle.distance_mark.proofs.Limits.{distance_within}
use Rattle.tables.specs.declared.counts.Summary.{Summary}
use Rattle.network.specs.Ready.{Ready, graph_of}
use Rattle.network.proofs.Reading.{ready_range}
use Rattle.sets.specs.Rows.{AllRows, FriendRow}
use Rattle.sets.specs.Sets.{Has, Meet}
use Rattle.clique.specs.Cliques.{LargestClique}
use Rattle.clique.specs.Mutual.{RowsOf, CliqueSize}
use Rattle.relation.specs.declared.Relation.{Relation}
use Rattle.relation.specs.Related.{Related}
use Rattle.relation.proofs.Undirected.{network_undirected}

-- less is asked
pub related_less : {g : Graph} {u v : ℕ} {Near Near' : ℕ → Type 0} {Known Known' Sized Sized' : Type 0} {r : Relation}
    → ((k : ℕ) → Near' k → Near k)
    → (Known' → Known)
    → (Sized' → Sized)
    → Related g u v Near Known Sized r
    → Related g u v Near' Known' Sized' r
related_less n k s h = record { near = λ j e. h.near j (n j e); acquainted = λ e. h.acquainted (k e); sized = λ e. h.sized (s e) }

pub near_friend : (g : Graph) (u v : ℕ) → Friends g u v → (k : ℕ) → 1 ≤ k → Within g k u v ↔ AtMost (Some 1) k
near_friend g u v f k l = (λ h. omega arith, λ h. (v ∷ [], omega arith, (f, refl)))

-- what a mark that was read tells of within
pub near_read : {g : Graph} {v limit : ℕ} {distances : List ℕ} {x : Option ℕ} → Distances g v limit distances → (u k : ℕ) → u < g.members → k ≤ limit
    → x ≡ distance_at (get_or distances u 0)
    → Within g k u v ↔ AtMost x k
near_read {g} {v} {limit} {x = x} d u k l h e = distance_within g limit u v x k h (read_distance d u l e)

-- the size, of all rows, is that of the largest clique
pub sized_by : {b net : List ℕ} {rows : List (List ℕ)} {c : Summary} {u v size : ℕ} → Ready b c net → AllRows (graph_of b net) rows → CliqueSize rows u v size
    → u < c.members
    → v < c.members
    → (u ≡ v → ⊥)
    → LargestClique (graph_of b net) u v size
sized_by {b} {net} ready each s i j =
    let counts = ready.counts in
    let rows : RowsOf (graph_of b net) _ = record { each = each; few = omega (arith, ready_range ready); undirected = network_undirected b net } in
    s.largest (graph_of b net) rows (omega arith) (omega arith)

-- the members of a friend row, and of what it has in common with another set
pub in_row : {g : Graph} {m x : ℕ} {row : List ℕ} → FriendRow g m row → Has row x → x < g.members
in_row {g} {x = x} r h = elim (dec_lt x g.members) [ yes l ↦ l | no l ↦ absurd (true≢false (sym h ∙ r.none_above x (omega arith))) ]

pub in_common : {g : Graph} {m x : ℕ} {row set common : List ℕ} → FriendRow g m row → Meet row set common → Has common x → x < g.members
in_common {x = x} r c h = in_row r (both _ _ (sym (c.bits x) ∙ h))
  where
    both : (a b : Bool) → (a && b) ≡ true → a ≡ true
    both true b e = refl
    both false b e = absurd (false≢true e)
