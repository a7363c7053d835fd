-- What the standard scheme's tables mean, said another way than they are listed (docs/reference.md, "The standard scheme").
use Rattle.std.specs.Prelude.{ℕ, ◌+◌, ◌-◌, ◌<◌, ◌≡◌, Bool, false, ◌&&◌, ◌||◌, cond, List, [], ◌∷◌, eqb, leb, get_or}
use Rattle.model.specs.Bytes.{bit}
use Rattle.model.specs.Decides.{Decides}
use Rattle.model.specs.Policies.{Admits}
use Rattle.model.specs.Network.{Maps, world}
use Rattle.model.specs.Standard.{standard}

-- states 1 and 2: side 0, side 1 is invited
abbrev pub invited_side : ℕ → ℕ
invited_side b = 1 + b

-- invite, from strangers: the other side is invited; accept and ignore, by the side that is invited: friends, strangers; remove, by either friend
abbrev pub meant_move : ℕ → ℕ → ℕ → ℕ
meant_move q b a =
    get_or
    (cond (eqb q 0) (invited_side (1 - b)) 255
    ∷ cond (eqb q (invited_side b)) 3 255
    ∷ cond (eqb q (invited_side b)) 0 255
    ∷ cond (eqb q 3) 0 255
    ∷ [])
    a
    255

abbrev pub from_to : ℕ → ℕ → ℕ → Bool
from_to first last p = leb first p && leb p last

-- resources: search, traversal, invite, accept, ignore, remove, site card, recipe, pull tests
abbrev pub meant_offer : ℕ → ℕ → Bool
meant_offer r p =
    get_or
    (from_to 8 12 p
    ∷ from_to 0 4 p
    ∷ (eqb p 0 || from_to 3 4 p)
    ∷ eqb p 4
    ∷ eqb p 4
    ∷ eqb p 4
    ∷ from_to 8 12 p
    ∷ from_to 0 4 p
    ∷ from_to 0 4 p
    ∷ [])
    r
    false

-- five members: 0 and 1, 1 and 2, 2 and 3 are friends; 0 has invited 4, and 4 has invited 1
abbrev pub trial : Maps
trial = record {
  pair = λ i j. cond (eqb j (i + 1) && leb j 3) 3 (cond (eqb j 4) (get_or (2 ∷ 1 ∷ []) i 0) 0);
  setting = λ m r. 0;
}

-- for each policy, whom each of the five as owner admits
abbrev pub trial_admits : List (List (List ℕ))
trial_admits =
    -- no one
    ([] ∷ [] ∷ [] ∷ [] ∷ [] ∷ [])
    -- u = v
    ∷ ((0 ∷ []) ∷ (1 ∷ []) ∷ (2 ∷ []) ∷ (3 ∷ []) ∷ (4 ∷ []) ∷ [])
    -- within 1, within 2
    ∷ ((0 ∷ 1 ∷ []) ∷ (0 ∷ 1 ∷ 2 ∷ []) ∷ (1 ∷ 2 ∷ 3 ∷ []) ∷ (2 ∷ 3 ∷ []) ∷ (4 ∷ []) ∷ [])
    ∷ ((0 ∷ 1 ∷ 2 ∷ []) ∷ (0 ∷ 1 ∷ 2 ∷ 3 ∷ []) ∷ (0 ∷ 1 ∷ 2 ∷ 3 ∷ []) ∷ (1 ∷ 2 ∷ 3 ∷ []) ∷ (4 ∷ []) ∷ [])
    -- everyone
    ∷ (all ∷ all ∷ all ∷ all ∷ all ∷ [])
    -- whom the owner has invited: the lesser the greater, the greater the lesser, either
    ∷ ((4 ∷ []) ∷ [] ∷ [] ∷ [] ∷ [] ∷ [])
    ∷ ([] ∷ [] ∷ [] ∷ [] ∷ (1 ∷ []) ∷ [])
    ∷ ((4 ∷ []) ∷ [] ∷ [] ∷ [] ∷ (1 ∷ []) ∷ [])
    -- each of the first five, or whom the owner has invited
    ∷ ((4 ∷ []) ∷ [] ∷ [] ∷ [] ∷ (1 ∷ []) ∷ [])
    ∷ ((0 ∷ 4 ∷ []) ∷ (1 ∷ []) ∷ (2 ∷ []) ∷ (3 ∷ []) ∷ (1 ∷ 4 ∷ []) ∷ [])
    ∷ ((0 ∷ 1 ∷ 4 ∷ []) ∷ (0 ∷ 1 ∷ 2 ∷ []) ∷ (1 ∷ 2 ∷ 3 ∷ []) ∷ (2 ∷ 3 ∷ []) ∷ (1 ∷ 4 ∷ []) ∷ [])
    ∷ ((0 ∷ 1 ∷ 2 ∷ 4 ∷ []) ∷ (0 ∷ 1 ∷ 2 ∷ 3 ∷ []) ∷ (0 ∷ 1 ∷ 2 ∷ 3 ∷ []) ∷ (1 ∷ 2 ∷ 3 ∷ []) ∷ (1 ∷ 4 ∷ []) ∷ [])
    ∷ (all ∷ all ∷ all ∷ all ∷ all ∷ [])
    ∷ []
  where
    all : List ℕ
    all = 0 ∷ 1 ∷ 2 ∷ 3 ∷ 4 ∷ []

abbrev pub is_in : ℕ → List ℕ → Bool
is_in x [] = false
is_in x (y ∷ l) = eqb x y || is_in x l

pub record StandardMeant (n : ℕ) : Type 0 where
  pub moves : (q b a : ℕ) → q < 4 → b < 2 → a < 4 → (standard n).move q b a ≡ meant_move q b a
  pub masks : (r p : ℕ) → r < 9 → p < 32 → bit ((standard n).mask r) p ≡ meant_offer r p
  pub policies : (p u v : ℕ) → p < 13 → u < 5 → v < 5
      → Decides (is_in v (get_or (get_or trial_admits p []) u [])) (Admits (world (standard 5) trial).graph ((standard n).policy p) u v)
