-- A row written into a table.
use Rattle.std.proofs.Common.{ℕ, ◌<◌, List, [], length, set, length-set}
use lib.Seq.{get_or-set_same, get_or-set_other}
use Rattle.sets.specs.Sets.{RowPut}

-- `rows[m] = row`
pub row_put : (rows : List (List ℕ)) (m : ℕ) (row : List ℕ) → m < length rows → RowPut rows m row (set rows m row)
row_put rows m row h = record { long = length-set rows m row; here = get_or-set_same rows m row [] h; kept = λ k n. get_or-set_other rows _ _ _ [] n }
