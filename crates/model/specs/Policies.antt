-- Policies: whom an owner's setting admits (docs/reference.md, "Policies").
use Rattle.std.specs.Prelude.{ℕ, ◌<◌, ◌≤◌, ◌≡◌, true, ◌⊎◌}
use Rattle.model.specs.Graph.{Graph, Friends, Within, shared, Clique}

-- which of owner u and accessor v has the lesser number: k = 0, 1 and 2 of kind 6
pub data Side : Type 0 where
  any_side owner_lesser owner_greater : Side

abbrev pub OnSide : Side → ℕ → ℕ → Type 0
OnSide any_side u v = Unit {0}
OnSide owner_lesser u v = u < v
OnSide owner_greater u v = v < u

-- kinds 0 to 8, in their order
pub data Policy : Type 0 where
  no_one everyone owner_only : Policy
  within known clique : ℕ → Policy
  state : ℕ → Side → Policy
  both either : Policy → Policy → Policy

-- the policy admits accessor v to what owner u has
abbrev pub Admits : Graph → Policy → ℕ → ℕ → Type 0
Admits g no_one u v = ⊥
Admits g everyone u v = Unit {0}
Admits g owner_only u v = u ≡ v
Admits g (within k) u v = Within g k u v
Admits g (known k) u v = (u ≡ v) ⊎ Friends g u v ⊎ (k ≤ shared g u v)
Admits g (clique k) u v = (u ≡ v) ⊎ Clique g k u v
Admits g (state set side) u v = (g.in_set set u v ≡ true) × OnSide side u v
Admits g (both p q) u v = Admits g p u v × Admits g q u v
Admits g (either p q) u v = Admits g p u v ⊎ Admits g q u v
