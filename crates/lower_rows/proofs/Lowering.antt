-- Rows by flags.
use Prim.Native.Nat.{ℕ, ◌+◌, ◌-◌, ◌/◌, ◌%◌, ◌≤◌, ◌<◌}
use mathlib.Core.Path.{◌≡◌, refl, ap, ◌∙◌}
use mathlib.Core.Bool.{false, ◌&&◌}
use mathlib.Core.List.{List, []}
use mathlib.Core.Logic.{inl, inr, ⊎_elim}
use native.Mathlib.Decide.{dec_lt}
use native.Mathlib.Omega.{arith}
use borrow.Author.Tests.{lt-ltb, le-ltb}
use lib.Dec.{ltb}
use lib.ListN.{length, get_or, get_or-eq_default}
use Rattle.std.specs.Prelude.{slice_range}
use Rattle.model.specs.Network.{pairs}
use Rattle.model.specs.Graph.{Graph}
use Rattle.tables.specs.declared.counts.Summary.{Summary}
use Rattle.network.specs.Ready.{Ready, graph_of}
use Rattle.network.proofs.Reading.{ready_range}
use Rattle.model.proofs.Bits.{digit_of_zero, bit_no}
use Rattle.friend_flags.specs.Flags.{flag, Flagged}
use Rattle.friend_flags.proofs.Friendships.{flag_bit, flag_small, bytes_inside, states_long, states_small, below_flagged, own_flagged, kept_behind}
use Rattle.sets.specs.Rows.{row_bit}
use Rattle.sets.specs.Sets.{RowPut}
use Rattle.columns.specs.Columns.{FlagsAdded, Columns}
use Rattle.columns.proofs.Adding.{columns_more}
use Rattle.lower_rows.specs.Lower.{FlagsBelow, RowOfFlags, RowBelow, column_of, LowerRows}

module _ {b : List ℕ} {c : Summary} {net : List ℕ} (h : Ready b c net) {m at : ℕ} (member : m < c.members) (e : at ≡ pairs m) where
  first : at ≡ pairs m + 0
  first = omega (arith, e)

  whole : 0 + m ≤ m
  whole = omega arith

  abbrev states : List ℕ
  states = slice_range net at (at + m)

  pub row_inside : at + m ≤ length net
  row_inside = bytes_inside h 0 m member whole first

  pub row_long : length states ≡ m
  row_long = states_long h 0 m member whole first

  pub row_small : (k : ℕ) → get_or states k 0 < 32
  row_small = states_small h 0 m member whole first

  module _ {flags flags' : List ℕ} (below : FlagsBelow m flags) (f : Flagged states c.marks 0 (length states) flags flags') where
    behind : (k : ℕ) → m ≤ k → get_or flags' k 0 ≡ 0
    behind k l = kept_behind h 0 m member whole first f k l ∙ below.none_above k l

    told : (k : ℕ) → get_or flags' k 0 ≡ flag (ltb k m && (graph_of b net).friends k m)
    told k = go (dec_lt k m)
      where
        go : Dec (k < m) → get_or flags' k 0 ≡ flag (ltb k m && (graph_of b net).friends k m)
        go (yes l) =
            let same : 0 + k ≡ k = omega arith in
            below_flagged h 0 m member whole first f k l ∙ ap (λ (x : ℕ). flag ((graph_of b net).friends x m)) same ∙ rw (lt-ltb k m l)
        go (no n) = behind k (omega arith) ∙ rw (le-ltb k m (omega arith))

    pub flags_below : FlagsBelow m flags'
    flags_below = record {
      long = f.long ∙ below.long;
      small = λ k. rw (told k) (flag_small (ltb k m && (graph_of b net).friends k m));
      none_above = behind;
    }

    row_below : (row : List ℕ) → length row ≡ 4 → RowOfFlags flags' row → RowBelow (graph_of b net) m m row
    row_below row four r = record { bits = bits; none_above = λ k l. none k l (dec_lt k 256) }
      where
        bits : (k : ℕ) → k < m → row_bit row k ≡ (graph_of b net).friends m k
        bits k l =
            let same : 0 + k ≡ k = omega arith in
            flag_bit _ _ ((graph_of b net).friends m k) (r k (omega (arith, ready_range h)) ∙ own_flagged h 0 m member whole first f k l ∙ ap (λ (x : ℕ). flag ((graph_of b net).friends m x)) same)

        none : (k : ℕ) → m ≤ k → Dec (k < 256) → row_bit row k ≡ false
        none k l (yes d) = flag_bit _ _ false (r k d ∙ behind k l)
        none k l (no d) =
            let z : get_or row (k / 64) 0 ≡ 0 = get_or-eq_default row 0 (omega arith) in
            rw z (bit_no 0 (k % 64) (digit_of_zero (k % 64)))

    -- m's row is written, and its flags are added to the columns
    pub lower_more : {from : ℕ} {rows₀ rows rows' : List (List ℕ)} {row columns columns' : List ℕ} → from ≤ m → m < from + 8
        → LowerRows (graph_of b net) from m rows₀ flags columns rows
        → length row ≡ 4
        → RowOfFlags flags' row
        → RowPut rows m row rows'
        → FlagsAdded flags' (m - from) 0 256 columns columns'
        → LowerRows (graph_of b net) from (m + 1) rows₀ flags' columns' rows'
    lower_more {from} {rows₀} {rows} {rows'} {row} {columns} {columns'} a d l four r p t = record {
      long = p.long ∙ l.long;
      each = λ k i j. each k i (dec_lt k m) j;
      kept = λ k o. p.kept k (⊎_elim (λ x. (λ e. omega arith)) (λ x. (λ e. omega arith)) o) ∙ l.kept k (⊎_elim (λ x. inl x) (λ x. inr (omega arith)) o);
      flagged = record { long = flags_below.long; small = flags_below.small; none_above = λ k i. flags_below.none_above k (omega arith) };
      told = rw next (columns_more (column_of (graph_of b net) from) flags' columns columns' (m - from) (omega arith) (λ k i. rw here (told k)) l.told t);
    }
      where
        here : from + (m - from) ≡ m
        here = omega arith

        next : m + 1 - from ≡ m - from + 1
        next = omega arith

        each : (k : ℕ) → from ≤ k → Dec (k < m) → k < m + 1 → RowBelow (graph_of b net) k k (get_or rows' k [])
        each k i (yes s) j = rw (p.kept k (λ e. omega arith)) (l.each k i s)
        each k i (no n) j = let e : k ≡ m = omega arith in rw (e, p.here) (row_below row four r)

pub lower_none : {g : Graph} {from : ℕ} {rows : List (List ℕ)} {flags columns : List ℕ} → FlagsBelow from flags → Columns (column_of g from) 0 columns → LowerRows g from from rows flags columns rows
lower_none {g} {from} f t = record {
  long = refl;
  each = λ m i j. absurd (omega arith);
  kept = λ m o. refl;
  flagged = f;
  told = let e : from - from ≡ 0 = omega arith in rw e t;
}
