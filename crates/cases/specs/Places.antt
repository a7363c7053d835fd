-- An output that is filled before a call, so that what the call writes shows.
use Rattle.std.specs.Prelude.{ℕ, ◌+◌, ◌<◌, ◌≡◌, List, get_or}

-- each place below a number holds 1000 more than its own
abbrev pub Filled : List ℕ → ℕ → Type 0
Filled output count = (i : ℕ) → i < count → get_or output i 0 ≡ 1000 + i
