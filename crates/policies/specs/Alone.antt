-- Policies that are judged without those of lower number.
use Rattle.std.specs.Prelude.{ℕ, ◌≤◌, ◌<◌, ◌≡◌, List}
use Rattle.model.specs.SchemeBytes.{scheme_of}
use Rattle.rules.specs.Rules.{kind_of}

-- none of the policies from a number on, below the count, combines others, unless all of lower number are among them
abbrev pub Alone : List ℕ → ℕ → ℕ → Type 0
Alone b from count = (p : ℕ) → from ≤ p → p < count → 7 ≤ kind_of ((scheme_of b).policy p) → from ≡ 0
