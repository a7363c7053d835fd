-- The first member with a mark.
use Rattle.std.specs.Prelude.{ℕ, ◌≤◌, ◌<◌, ◌≡◌, List, Option, None, Some, get_or}

-- nobody from a member on, before an end, has that mark
abbrev pub NoneMarked : ℕ → List ℕ → ℕ → ℕ → Type 0
NoneMarked mark seen from end = (k : ℕ) → from ≤ k → k < end → get_or seen k 0 ≡ mark → ⊥

-- the first who has it, if there is one
abbrev pub FirstMarked : ℕ → List ℕ → ℕ → ℕ → Option ℕ → Type 0
FirstMarked mark seen from end (Some r) = (from ≤ r) × (r < end) × (get_or seen r 0 ≡ mark) × NoneMarked mark seen from r
FirstMarked mark seen from end None = NoneMarked mark seen from end
