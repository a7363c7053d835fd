-- A page in lent places, by ranks in a lent array.
use Rattle.std.specs.Prelude.{ℕ, ◌-◌, ◌<◌, ◌≤◌, ◌≡◌, List, [], ◌∷◌, ◌++◌, length, get_or, take, drop}
use Rattle.model.specs.Page.{All, Ordered, FirstOf}
use Rattle.model.specs.Suggestions.{Earlier}
use Rattle.model.proofs.Paging.{Below, insert, enter}
use Rattle.model.proofs.Suggesting.{earlier}

abbrev pub rank_of : List ℕ → ℕ → ℕ
rank_of ranks m = get_or ranks m 0

-- all on the page have ranks, and stand in the order of these
pub record InOrder (ranks page : List ℕ) : Type 0 where
  pub known : All (λ x. x < length ranks) page
  pub ordered : Ordered (Earlier (rank_of ranks)) page

-- m is in its place on the page, and who stands behind it is left over
abbrev pub Inserted : List ℕ → List ℕ → ℕ → List ℕ → ℕ → Type 0
Inserted ranks page m after left = insert (earlier (rank_of ranks)) m page ≡ after ++ left ∷ []

-- m has entered the page in the first used places, which stands in the first r now; those behind stay
pub record Entered (ranks places : List ℕ) (used m r : ℕ) (after : List ℕ) : Type 0 where
  pub long : length after ≡ length places
  pub grown : used ≤ r
  pub fits : r ≤ length places
  pub front : take r after ≡ enter (earlier (rank_of ranks)) (length places) m (take used places)
  pub behind : drop r after ≡ drop r places

-- what the rank of the next must exceed: the rank of the last on a full page, else 0
pub record LastRank (ranks places : List ℕ) (used r : ℕ) : Type 0 where
  pub full : 0 < used → used ≡ length places → r ≡ rank_of ranks (get_or places (used - 1) 0)
  pub free : (0 < used → used ≡ length places → ⊥) → r ≡ 0

-- the page of those below n with a rank above 0 stands in the first r places; those behind stay
pub record Filled (ranks page : List ℕ) (wanted n r : ℕ) (after : List ℕ) : Type 0 where
  pub long : length after ≡ length page
  pub fits : r ≤ wanted
  pub front : FirstOf (Earlier (rank_of ranks)) (Below (λ m. 1 ≤ rank_of ranks m) n) wanted (take r after)
  pub behind : drop r after ≡ drop r page
