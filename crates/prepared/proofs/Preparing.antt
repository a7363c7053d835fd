-- What is prepared for an accessor.
use Prim.Native.Nat.{ℕ, ◌≤◌, ◌<◌}
use mathlib.Core.Path.{◌≡◌}
use mathlib.Core.List.{List}
use native.Mathlib.Omega.{arith}
use Rattle.model.specs.Policies.{within}
use Rattle.model.specs.SchemeBytes.{P, scheme_of}
use Rattle.network.specs.Ready.{graph_of}
use Rattle.distance.specs.Distances.{Distances}
use Rattle.prepared.specs.Prepared.{Measured}

-- the distances that a policy reads were written
pub near : {b net : List ℕ} {v : ℕ} {distances distances' : List ℕ} → Measured b net v distances distances' → (p k : ℕ) → p < P b
    → (scheme_of b).policy p ≡ within k
    → (limit : ℕ) × (k ≤ limit) × Distances (graph_of b net) v limit distances'
near m p k l h = let (x, y) = m.farthest.most p k l h in (m.limit, y, m.read (omega arith))
