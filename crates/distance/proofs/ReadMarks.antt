-- Marks, read.
use Prim.Native.Nat.{ℕ, ◌<◌}
use mathlib.Core.Path.{◌≡◌, sym, subst}
use mathlib.Core.List.{List}
use lib.ListN.{get_or}
use Rattle.model.specs.Graph.{Graph}
use Rattle.std.specs.Prelude.{Option}
use Rattle.distance_mark.specs.Mark.{distance_at, IsDistance}
use Rattle.distance.specs.Distances.{Distances}

pub read_distance : {g : Graph} {v limit : ℕ} {distances : List ℕ} {x : Option ℕ} → Distances g v limit distances → (u : ℕ) → u < g.members
    → x ≡ distance_at (get_or distances u 0)
    → IsDistance g limit u v x
read_distance {g} {v} {limit} d u l e = subst (IsDistance g limit u v) (sym e) (d.each u l)
