-- The next friend who is not seen.
use Rattle.std.specs.Prelude.{ℕ, ◌≤◌, ◌<◌, ◌≡◌, List, Option, None, Some, get_or}
use Rattle.model.specs.Graph.{Graph, Friends}

-- r is the first friend of m from a member on who is not seen, or the end where there is none before it
pub record Next (g : Graph) (m : ℕ) (seen : List ℕ) (from end r : ℕ) : Type 0 where
  pub onward : from ≤ r
  pub within : r ≤ end
  pub passed : (k : ℕ) → k < r → from ≤ k → Friends g m k → 1 ≤ get_or seen k 0
  pub stops : r < end → Friends g m r × (get_or seen r 0 ≡ 0)

-- the first friend of m from a member on who is not seen, if there is one before the end
abbrev pub NextFriend : Graph → ℕ → List ℕ → ℕ → ℕ → Option ℕ → Type 0
NextFriend g m seen from end (Some r) = Next g m seen from end r × (r < end)
NextFriend g m seen from end None = Next g m seen from end end
