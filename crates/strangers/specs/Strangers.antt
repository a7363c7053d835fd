-- Whom policies admit in a graph without friendships.
use Rattle.std.specs.Prelude.{ℕ, ◌<◌, ◌≤◌, ◌≡◌, true, List, ◌↔◌, get_or}
use Rattle.model.specs.Bytes.{bit}
use Rattle.model.specs.Policies.{Policy, OnSide, Admits}
use Rattle.model.specs.SchemeBytes.{side_of, strangers, scheme_of}

-- bits 1 and 2 of sides: the policy admits among strangers an accessor on that side of the owner
abbrev pub SidesOf : ℕ → Policy → Type 0
SidesOf sides policy =
    (members u v side : ℕ)
    → 1 ≤ side
    → side ≤ 2
    → OnSide (side_of side) u v
    → (bit sides side ≡ true) ↔ Admits (strangers members) policy u v

-- the list has the sides of each of the first count policies
abbrev pub SidesBelow : List ℕ → List ℕ → ℕ → Type 0
SidesBelow b sides count = (p : ℕ) → p < count → SidesOf (get_or sides p 0) ((scheme_of b).policy p)
