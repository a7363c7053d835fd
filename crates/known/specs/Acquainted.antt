-- How well two members are acquainted.
use Rattle.std.specs.Prelude.{ℕ, ◌≡◌, false, ◌⊎◌}
use Rattle.model.specs.Graph.{Graph, Friends, shared}
use Rattle.known.specs.declared.Acquaintance.{Acquaintance}
use Rattle.known.specs.declared.Acquaintance.TheVariants.{Close, Sharing}

-- u and v are one or friends; or neither, and share so many friends
abbrev pub Acquainted : Graph → ℕ → ℕ → Acquaintance → Type 0
Acquainted g u v Close = (u ≡ v) ⊎ Friends g u v
Acquainted g u v (Sharing count) = (u ≡ v → ⊥) × (g.friends u v ≡ false) × (count ≡ shared g u v)
