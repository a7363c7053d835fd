-- Suggested contacts (docs/reference.md, "Suggestions").
use Rattle.std.specs.Prelude.{ℕ, ◌<◌, ◌≤◌, ◌≡◌, List, [], ◌∷◌, ◌⊎◌}
use Rattle.model.specs.Answers.{Requirement}
use Rattle.model.specs.Graph.{Friends, shared}
use Rattle.model.specs.Finding.{World, Finds}
use Rattle.model.specs.Page.{FirstOf}

-- most shared friends first, among equals the lower number; shares says how many each member shares with the one who asks
abbrev pub Earlier : (ℕ → ℕ) → ℕ → ℕ → Type 0
Earlier shares x y = (shares y < shares x) ⊎ ((shares x ≡ shares y) × (x < y))

-- m may be suggested to v: a member that v finds, neither v nor v's friend, with at least one shared friend
pub record Suggestible (w : World) (v m : ℕ) : Type 0 where
  pub found : Finds w v m
  pub other : m ≡ v → ⊥
  pub no_friend : Friends w.graph v m → ⊥
  pub sharing : 1 ≤ shared w.graph v m

-- the page that a granted call writes
abbrev pub Suggestions : World → ℕ → ℕ → List ℕ → Type 0
Suggestions w v c l = FirstOf (Earlier (shared w.graph v)) (Suggestible w v) c l

-- what the call asks beyond the scheme check and 5: 6 is about v alone, 13 about c and not about how many there are
abbrev pub suggest_needs : World → ℕ → ℕ → ℕ → List Requirement
suggest_needs w v c places = (6, v < w.graph.members) ∷ (13, c ≤ places) ∷ []
