-- What a mark says.
use Rattle.std.specs.Prelude.{ℕ, zero, suc, ◌≤◌, Option, None, Some}
use Rattle.model.specs.Graph.{Graph, Within, friendships, IsDegree}

-- a mark is one more than the number of friendships, or 0
abbrev pub distance_at : ℕ → Option ℕ
distance_at zero = None
distance_at (suc d) = Some d

-- at most k friendships
abbrev pub AtMost : Option ℕ → ℕ → Type 0
AtMost (Some d) k = d ≤ k
AtMost None k = ⊥

-- the degree of u and v, where it is at most the limit; none, where no walk of so few friendships joins them
abbrev pub IsDistance : Graph → ℕ → ℕ → ℕ → Option ℕ → Type 0
IsDistance g limit u v (Some d) = (d ≤ limit) × IsDegree g u v (friendships d)
IsDistance g limit u v None = Within g limit u v → ⊥
