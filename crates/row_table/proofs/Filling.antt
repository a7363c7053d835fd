-- The table of all rows, eight members at a time.
use Prim.Native.Nat.{ℕ, ◌+◌, ◌-◌, ◌≤◌, ◌<◌, min}
use mathlib.Core.Path.{◌≡◌, refl, sym, subst, ◌∙◌}
use mathlib.Core.Bool.{Bool, false, ◌||◌, or-false}
use mathlib.Core.List.{List, []}
use mathlib.Core.Logic.{◌⊎◌, inl, inr, ⊎_elim}
use native.Mathlib.Decide.{dec_lt}
use native.Mathlib.Omega.{arith}
use borrow.Author.Tests.{lt-ltb, le-ltb}
use lib.ListN.{length, get_or}
use Rattle.model.specs.Bytes.{bit}
use Rattle.model.specs.SchemeBytes.{n as members}
use Rattle.model.proofs.Sets.{Built, built_none}
use Rattle.network.specs.Ready.{graph_of}
use Rattle.network.proofs.Reading.{friends_own, friends_outside}
use Rattle.sets.specs.Rows.{row_bit, FriendRow}
use Rattle.columns.specs.Columns.{Columns, ByteAdded, ColumnsPut}
use Rattle.lower_rows.specs.Lower.{FlagsBelow, RowBelow, column_of, LowerRows}
use Rattle.row_table.specs.Filled.{RowsFilled}

pub flags_none : {flags : List ℕ} → length flags ≡ 256 → ((k : ℕ) → get_or flags k 0 ≡ 0) → FlagsBelow 0 flags
flags_none l z = record { long = l; small = λ k. omega (arith, z k); none_above = λ k h. z k }

pub columns_none : {columns : List ℕ} (f : ℕ → ℕ → Bool) → length columns ≡ 256 → ((k : ℕ) → get_or columns k 0 ≡ 0) → Columns f 0 columns
columns_none f l z = record { long = l; each = λ m h. rw (z m) (built_none (f m)) }

module _ (b net : List ℕ) where
  -- a row with what its column tells of the members from one on
  module _ {m from end x : ℕ} {row row' : List ℕ} (k : ℕ) (ends : (end ≡ from + 8) ⊎ (members b ≤ end)) (a : from ≤ k) (o : k ≤ from + 8)
      (low : (p : ℕ) → from ≤ p → p < k → p ≤ m)
      (high : (p : ℕ) → k ≤ p → m ≤ p)
      (below : RowBelow (graph_of b net) m k row)
      (told : Built (column_of (graph_of b net) from m) (end - from) x)
      (add : ByteAdded row from x row') where
    column : (t : ℕ) → m < from + t → t < 8 → bit x t ≡ (graph_of b net).friends m (from + t)
    column t l h = go (dec_lt t (end - from))
      where
        go : Dec (t < end - from) → bit x t ≡ (graph_of b net).friends m (from + t)
        go (yes d) = told.has t d ∙ rw (lt-ltb m (from + t) l)
        go (no d) = told.none_above t (omega arith) ∙ sym (friends_outside b net m (from + t) (⊎_elim (λ e. absurd (omega arith)) (λ e. omega arith) ends))

    none : (t : ℕ) → from + t ≤ m → bit x t ≡ false
    none t l = go (dec_lt t (end - from))
      where
        go : Dec (t < end - from) → bit x t ≡ false
        go (yes d) = told.has t d ∙ rw (le-ltb m (from + t) l)
        go (no d) = told.none_above t (omega arith)

    here : (t : ℕ) → t < 8 → row_bit row' (from + t) ≡ (graph_of b net).friends m (from + t)
    here t h = add.here t h ∙ go (dec_lt (from + t) k) (dec_lt m (from + t))
      where
        go : Dec (from + t < k) → Dec (m < from + t) → (row_bit row (from + t) || bit x t) ≡ (graph_of b net).friends m (from + t)
        go (yes d) e = rw (none t (low (from + t) (omega arith) d)) (or-false (row_bit row (from + t)) ∙ below.bits (from + t) d)
        go (no d) (yes e) = rw (below.none_above (from + t) (omega arith)) (column t e h)
        go (no d) (no e) =
            let own : m ≡ from + t = omega (arith, high (from + t) (omega arith)) in
            rw (below.none_above (from + t) (omega arith)) (none t (omega arith) ∙ sym (friends_own b net m (from + t) own))

    grown : RowBelow (graph_of b net) m (from + 8) row'
    grown = record { bits = λ p l. bits p l (dec_lt p from); none_above = λ p l. add.above p l ∙ below.none_above p (omega arith) }
      where
        bits : (p : ℕ) → p < from + 8 → Dec (p < from) → row_bit row' p ≡ (graph_of b net).friends m p
        bits p l (yes d) = add.below p d ∙ below.bits p (omega arith)
        bits p l (no d) =
            let e : from + (p - from) ≡ p = omega arith in
            subst (λ (x : ℕ). row_bit row' x ≡ (graph_of b net).friends m x) e (here (p - from) (omega arith))

  -- the members below one have their rows as far as it; the rows of no member are as they were
  pub record Table (from : ℕ) (rows₀ rows : List (List ℕ)) : Type 0 where
    pub long : length rows ≡ length rows₀
    pub each : (m : ℕ) → m < from → m < members b → RowBelow (graph_of b net) m from (get_or rows m [])
    pub kept : (m : ℕ) → members b ≤ m → get_or rows m [] ≡ get_or rows₀ m []

  pub table_none : (rows : List (List ℕ)) → Table 0 rows rows
  table_none rows = record { long = refl; each = λ m h. absurd (omega arith); kept = λ m h. refl }

  module _ {from end : ℕ} {rows₀ rows rows₁ rows₂ : List (List ℕ)} {flags columns columns' : List ℕ} (e : end ≡ min (members b) (from + 8)) (some : from < members b) (few : members b ≤ 256)
      (table : Table from rows₀ rows)
      (lower : LowerRows (graph_of b net) from end rows flags columns rows₁)
      (put : ColumnsPut columns from end rows₁ columns' rows₂) where
    ends : (end ≡ from + 8) ⊎ (members b ≤ end)
    ends = go (dec_lt (from + 8) (members b))
      where
        go : Dec (from + 8 < members b) → (end ≡ from + 8) ⊎ (members b ≤ end)
        go (yes d) = inl (omega arith)
        go (no d) = inr (omega arith)

    table_more : Table (from + 8) rows₀ rows₂
    table_more = record {
      long = put.rows_long ∙ lower.long ∙ table.long;
      each = λ m h i. each m h i (dec_lt m from);
      kept = λ m h. put.kept m (omega arith) ∙ lower.kept m (inr (omega arith)) ∙ table.kept m h;
    }
      where
        each : (m : ℕ) → m < from + 8 → m < members b → Dec (m < from) → RowBelow (graph_of b net) m (from + 8) (get_or rows₂ m [])
        each m h i (yes d) =
            grown from ends (omega arith) (omega arith) (λ p x y. absurd (omega arith)) (λ p x. omega arith) (rw (lower.kept m (inl d)) (table.each m d i)) (lower.told.each m (omega arith)) (put.each m (omega arith))
        each m h i (no d) =
            grown m ends (omega arith) (omega arith) (λ p x y. omega arith) (λ p x. x) (lower.each m (omega arith) (omega arith)) (lower.told.each m (omega arith)) (put.each m (omega arith))

    columns_empty : Columns (column_of (graph_of b net) (from + 8)) 0 columns'
    columns_empty = record { long = put.columns_long ∙ lower.told.long; each = λ m h. each m h (dec_lt m end) }
      where
        each : (m : ℕ) → m < 256 → Dec (m < end) → Built (column_of (graph_of b net) (from + 8) m) 0 (get_or columns' m 0)
        each m h (yes d) = rw (put.empty m d) (built_none (column_of (graph_of b net) (from + 8) m))
        each m h (no d) = rw (put.rest m (omega arith)) record { has = λ t l. absurd (omega arith); none_above = λ t l. silent t (dec_lt t (end - from)) }
          where
            silent : (t : ℕ) → Dec (t < end - from) → bit (get_or columns m 0) t ≡ false
            silent t (yes l) = (lower.told.each m h).has t l ∙ rw (le-ltb m (from + t) (omega arith))
            silent t (no l) = (lower.told.each m h).none_above t (omega arith)

    flags_more : FlagsBelow (from + 8) flags
    flags_more = record { long = lower.flagged.long; small = lower.flagged.small; none_above = λ k h. lower.flagged.none_above k (omega arith) }

    pub eight_more : Table (from + 8) rows₀ rows₂ × FlagsBelow (from + 8) flags × Columns (column_of (graph_of b net) (from + 8)) 0 columns'
    eight_more = (table_more, flags_more, columns_empty)

  pub table_whole : {from : ℕ} {rows₀ rows : List (List ℕ)} → members b ≤ from → Table from rows₀ rows → RowsFilled (graph_of b net) rows₀ rows
  table_whole {from} {rows₀} {rows} h t = record { long = t.long; each = each; kept = t.kept }
    where
      each : (m : ℕ) → m < members b → FriendRow (graph_of b net) m (get_or rows m [])
      each m l = record { bits = λ p s. bits p (dec_lt p from); none_above = λ p o. bits p (dec_lt p from) ∙ friends_outside b net m p o }
        where
          r : RowBelow (graph_of b net) m from (get_or rows m [])
          r = t.each m (omega arith) l

          bits : (p : ℕ) → Dec (p < from) → row_bit (get_or rows m []) p ≡ (graph_of b net).friends m p
          bits p (yes d) = r.bits p d
          bits p (no d) = r.none_above p (omega arith) ∙ sym (friends_outside b net m p (omega arith))
