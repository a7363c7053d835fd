-- Friend rows, word by word.
use Prim.Native.Nat.{ℕ, ◌+◌, ◌-◌, ◌*◌, ◌/◌, ◌%◌, ◌^◌, ◌≤◌, ◌<◌}
use mathlib.Core.Path.{◌≡◌, sym, ap, ◌∙◌}
use mathlib.Core.Bool.{Bool, true, false}
use mathlib.Core.List.{List}
use native.Mathlib.Nat.{mod-lt, div-add-mod}
use native.Mathlib.Omega.{arith}
use native.Mathlib.Decide.{dec_lt}
use borrow.Author.Count.{below_more}
use lib.Bits.{bit_or}
use lib.ListN.{length, get_or, get_or-eq_default}
use Rattle.std.specs.Prelude.{slice_range}
use Rattle.model.specs.Bytes.{digit, bit}
use Rattle.model.specs.Graph.{Graph}
use Rattle.model.proofs.Bits.{digit_of_zero, bit_no}
use Rattle.model.proofs.Sets.{Added, added, left_out}
use Rattle.model.specs.Network.{pairs}
use Rattle.model.specs.SchemeBytes.{n as members}
use Rattle.tables.specs.declared.counts.Summary.{Summary}
use Rattle.network.specs.Ready.{Ready, graph_of}
use Rattle.friend_flags.specs.Flags.{Flagged, Packed}
use Rattle.friend_flags.proofs.Friendships.{flag_bit, flag_small, own_flagged, kept_behind}
use Rattle.sets.specs.Rows.{row_bit, FriendRow}
use Rattle.rows.specs.Words.{FirstBits}
use Rattle.network.proofs.Reading.{friends_outside}

-- ---- a word, bit by bit

first_next : {g : Graph} {u from n word word' : ℕ} → FirstBits g u from n word → Added word n (g.friends u (from + n)) word' → FirstBits g u from (n + 1) word'
first_next {g} {u} {from} {n} {word} {word'} f a = record {
  bits = below_more (λ (k : ℕ). bit word' k ≡ g.friends u (from + k)) n (λ k h. a.kept k h ∙ f.bits k h) a.here;
  none_above = a.none_above;
}

-- a bit that is none of a friend's
pub first_skip : {g : Graph} {u from n word : ℕ} → FirstBits g u from n word → g.friends u (from + n) ≡ false → FirstBits g u from (n + 1) word
first_skip {n = n} {word = word} f e = first_next f (rw e (left_out word n f.none_above))

-- the bit of member m, who is a friend or not
module _ {g : Graph} {u from m word : ℕ} {friend : Bool} (onward : from ≤ m) (e : friend ≡ g.friends u m) (f : FirstBits g u from (m - from) word) where
  put : {word' : ℕ} → Added word (m - from) (g.friends u (from + (m - from))) word' → FirstBits g u from (m + 1 - from) word'
  put a = let next : m + 1 - from ≡ m - from + 1 = omega arith in rw next (first_next f a)

  here : g.friends u (from + (m - from)) ≡ friend
  here = let p : from + (m - from) ≡ m = omega arith in rw p (sym e)

  pub first_friend : m < from + 64 → friend ≡ true → FirstBits g u from (m + 1 - from) (bit_or word (1 * 2 ^ (m - from) % 2 ^ 64))
  first_friend l y = put (rw (here ∙ y) (added 64 word (m - from) (omega arith) f.none_above))

  pub first_stranger : friend ≡ false → FirstBits g u from (m + 1 - from) word
  first_stranger n = put (rw (here ∙ n) (left_out word (m - from) f.none_above))

-- nobody is there above
pub first_all : (b net : List ℕ) (u from n word : ℕ) → n ≤ 64 → ((k : ℕ) → n ≤ k → k < 64 → members b ≤ from + k)
    → FirstBits (graph_of b net) u from n word
    → FirstBits (graph_of b net) u from 64 word
first_all b net u from n word l out f = record { bits = λ k h. go k h (dec_lt k n); none_above = λ k h. f.none_above k (omega arith) }
  where
    go : (k : ℕ) → k < 64 → Dec (k < n) → bit word k ≡ (graph_of b net).friends u (from + k)
    go k h (yes a) = f.bits k a
    go k h (no a) =
        let i : n ≤ k = omega arith in
        f.none_above k i ∙ sym (friends_outside b net u (from + k) (out k i h))

-- the flags of members below u as bits
module _ {b net : List ℕ} {c : Summary} (ready : Ready b c net) {u at : ℕ} (from end : ℕ) (member : u < c.members) (below : from + end ≤ u) (e : at ≡ pairs u + from)
    {flags flags' : List ℕ}
    (none : (k : ℕ) → get_or flags k 0 ≡ 0)
    (f : Flagged (slice_range net at (at + end)) c.marks 0 (length (slice_range net at (at + end))) flags flags') where
  pub flags_small : (k : ℕ) → get_or flags' k 0 ≤ 1
  flags_small k = go (dec_lt k end)
    where
      go : Dec (k < end) → get_or flags' k 0 ≤ 1
      go (yes l) = rw (own_flagged ready from end member below e f k l) (flag_small ((graph_of b net).friends u (from + k)))
      go (no l) = omega (arith, kept_behind ready from end member below e f k (omega arith), none k)

  pub first_flags : (word : ℕ) → end ≤ 64 → Packed flags' 0 64 word → FirstBits (graph_of b net) u from end word
  first_flags word l p = record { bits = bits; none_above = λ k h. above k h (dec_lt k 64) }
    where
      digits : (k : ℕ) → k < 64 → digit word k ≡ get_or flags' k 0
      digits k h = let z : 0 + k ≡ k = omega arith in p.digits k h ∙ ap (λ (x : ℕ). get_or flags' x 0) z

      bits : (k : ℕ) → k < end → bit word k ≡ (graph_of b net).friends u (from + k)
      bits k h = flag_bit word k ((graph_of b net).friends u (from + k)) (digits k (omega arith) ∙ own_flagged ready from end member below e f k h)

      above : (k : ℕ) → end ≤ k → Dec (k < 64) → bit word k ≡ false
      above k h (yes s) = flag_bit word k false (digits k s ∙ kept_behind ready from end member below e f k h ∙ none k)
      above k h (no s) = p.none_above k (omega arith)

-- ---- a row, word by word

pub friend_row : (g : Graph) (u : ℕ) (row : List ℕ) → g.members ≤ 256 → ((m : ℕ) → g.members ≤ m → g.friends u m ≡ false)
    → length row ≡ 4
    → ((w : ℕ) → w < 4 → FirstBits g u (64 * w) 64 (get_or row w 0))
    → FriendRow g u row
friend_row g u row h none long words = record { bits = λ m l. at m; none_above = λ m l. at m ∙ none m l }
  where
    part : (w j : ℕ) → j < 64 → Dec (w < 4) → bit (get_or row w 0) j ≡ g.friends u (64 * w + j)
    part w j l (yes i) = (words w i).bits j l
    part w j l (no n) =
        let z : get_or row w 0 ≡ 0 = get_or-eq_default row 0 {n = w} (omega arith) in
        rw z (bit_no 0 j (digit_of_zero j)) ∙ sym (none (64 * w + j) (omega arith))

    at : (m : ℕ) → row_bit row m ≡ g.friends u m
    at m = part (m / 64) (m % 64) (mod-lt m (omega arith)) (dec_lt (m / 64) 4) ∙ ap (g.friends u) (div-add-mod m 64)
