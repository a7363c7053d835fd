-- The members above a member, or those below it.
use Rattle.std.specs.Prelude.{ℕ, ◌+◌, ◌<◌, ◌≤◌, ◌≡◌, Bool, true, false}
use Rattle.model.specs.Network.{pairs}

-- those from one on before another stand on one side of m
abbrev pub OnSide : Bool → ℕ → ℕ → ℕ → Type 0
OnSide true m from end = m < from
OnSide false m from end = end ≤ m

-- where the state of m and k stands
abbrev pub place_on : Bool → ℕ → ℕ → ℕ
place_on true m k = pairs k + m
place_on false m k = pairs m + k

-- the states of m and k and of m and the next stand so far apart, whatever m is
abbrev pub Apart : Bool → ℕ → ℕ → Type 0
Apart above k apart = (m : ℕ) → place_on above m (k + 1) ≡ place_on above m k + apart
