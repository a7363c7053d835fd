-- The Adler-32 sum.
use Rattle.std.specs.Prelude.{ℕ, zero, suc, ◌+◌, ◌*◌, ◌%◌, List, length, get_or}

-- its two halves after the first so many bytes
unfoldable pub low : List ℕ → ℕ → ℕ
low b zero = 1
low b (suc i) = (low b i + get_or b i 0) % 65521

unfoldable pub high : List ℕ → ℕ → ℕ
high b zero = 0
high b (suc i) = (high b i + low b (suc i)) % 65521

abbrev pub adler : List ℕ → ℕ
adler b = high b (length b) * 65536 + low b (length b)
