-- The places, after a part of them is written.
use Prim.Native.Nat.{ℕ, ◌+◌, ◌≤◌}
use mathlib.Core.Path.{◌≡◌, sym, ◌∙◌, ap}
use mathlib.Core.List.{List, ◌++◌}
use native.Mathlib.Omega.{arith}
use lib.ListN.{length, take, drop, take-append-drop}
use lib.Seq.{length-take-le, take-append-le, drop-append-le, take_at, drop_at, take-take, drop-drop}

-- row stands in the place of the part
module _ (lists row : List ℕ) (at size count : ℕ) (inside : at ≤ length lists) (short : count ≤ length row) where
  abbrev pub put : List ℕ
  put = take at lists ++ (row ++ drop size (drop at lists))

  pub front_kept : take at put ≡ take at lists
  front_kept = take_at (take at lists) _ at (length-take-le at lists inside)

  pub row_written : length row ≤ 256 → take count (take 256 (drop at put)) ≡ take count row
  row_written d =
      ap (λ (l : List ℕ). take count (take 256 l)) (drop_at (take at lists) _ at (length-take-le at lists inside))
      ∙ take-take count 256 _ (omega arith)
      ∙ take-append-le count row _ short

  beyond : (l : List ℕ) → drop (at + count) (take at lists ++ l) ≡ drop count l
  beyond l =
      sym (drop-drop count at (take at lists ++ l))
      ∙ ap (λ (k : List ℕ). drop count k) (drop_at (take at lists) l at (length-take-le at lists inside))

  pub behind_kept : length row ≡ length (take size (drop at lists)) → drop count row ≡ drop count (take size (drop at lists))
      → drop (at + count) put ≡ drop (at + count) lists
  behind_kept same h =
      beyond _
      ∙ drop-append-le count row _ short
      ∙ ap (λ (l : List ℕ). l ++ drop size (drop at lists)) h
      ∙ sym (drop-append-le count (take size (drop at lists)) _ (omega arith))
      ∙ ap (λ (l : List ℕ). drop count l) (take-append-drop size (drop at lists))
      ∙ drop-drop count at lists
