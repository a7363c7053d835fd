-- The two halves of the Adler-32 sum, byte by byte.
use Prim.Native.Nat.{ℕ, ◌+◌, ◌%◌}
use mathlib.Core.Path.{◌≡◌, refl}
use mathlib.Core.List.{List}
use native.Mathlib.Numerals.{add-one}
use lib.ListN.{get_or}
use Rattle.cases.specs.Sums.{low, high}

-- l and h are the halves after i bytes
pub record Halves (b : List ℕ) (i l h : ℕ) : Type 0 where
  pub low : l ≡ low b i
  pub high : h ≡ high b i

pub halves_none : (b : List ℕ) → Halves b 0 1 0
unfolding low high
halves_none b = record { low = refl; high = refl }

pub halves_next : {b : List ℕ} {i l h x : ℕ} → Halves b i l h → x ≡ get_or b i 0 → Halves b (i + 1) ((l + x) % 65521) ((h + (l + x) % 65521) % 65521)
unfolding low high
halves_next {i = i} s e = rw (add-one i, s.low, s.high, e) (record { low = refl; high = refl })
