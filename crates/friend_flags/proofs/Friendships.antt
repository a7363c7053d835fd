-- Flags of a member's pair bytes: friendships with those below it, from a member on.
use Prim.Native.Nat.{ℕ, zero, suc, ◌+◌, ◌-◌, ◌≤◌, ◌<◌, ◌%◌}
use mathlib.Core.Path.{◌≡◌, refl, ap, ◌∙◌}
use mathlib.Core.Bool.{Bool, true, false}
use mathlib.Core.List.{List}
use native.Mathlib.Decide.{dec_lt}
use native.Mathlib.Omega.{arith}
use lib.ListN.{length, get_or, replicate, drop, get_or-eq_default}
use Rattle.std.specs.Prelude.{slice_range}
use Rattle.std.proofs.lemmas.List.{get_or-take, get_or-drop, length-take, length-drop}
use Rattle.model.specs.Bytes.{digit, bit}
use Rattle.model.specs.Network.{pairs, pair_place}
use Rattle.model.proofs.Bits.{bit_yes, bit_no}
use Rattle.tables.specs.declared.counts.Summary.{Summary}
use Rattle.network.specs.Ready.{Ready, graph_of}
use Rattle.network.proofs.Reading.{ready_range, pair_inside, pair_held, friends_byte}
use Rattle.friend_flags.specs.Flags.{flag, Flagged}

-- there is nothing but zeros, also behind the end
pub all_zero : (n k : ℕ) → ◌≡◌ {A = ℕ} (get_or (replicate n 0) k 0) 0
all_zero zero k = refl
all_zero (suc n) zero = refl
all_zero (suc n) (suc k) = all_zero n k

pub flag_bit : (x p : ℕ) (t : Bool) → digit x p ≡ flag t → bit x p ≡ t
flag_bit x p true e = bit_yes x p e
flag_bit x p false e = bit_no x p e

pub flag_small : (t : Bool) → flag t ≤ 1
flag_small true = omega arith
flag_small false = omega arith

module _ {b : List ℕ} {c : Summary} {net : List ℕ} (h : Ready b c net) {u at : ℕ} (from count : ℕ) (member : u < c.members) (below : from + count ≤ u) (e : at ≡ pairs u + from) where
  place : (k : ℕ) → at + k ≡ pair_place (from + k) u
  place k = omega (arith, e)

  pub bytes_inside : at + count ≤ length net
  bytes_inside = go (dec_lt 0 count)
    where
      go : Dec (0 < count) → at + count ≤ length net
      go (yes l) = omega (arith, e, pair_inside h (from + (count - 1)) u (omega arith) member)
      go (no n) = upto (dec_lt 0 u)
        where
          upto : Dec (0 < u) → at + count ≤ length net
          upto (yes l) = omega (arith, e, pair_inside h (u - 1) u (omega arith) member)
          upto (no z) = let own : u ≡ 0 = omega arith in omega (arith, e ∙ ap (λ (x : ℕ). pairs x + from) own)

  -- the states of the members below u from one on, side by side
  abbrev states : List ℕ
  states = slice_range net at (at + count)

  pub states_long : length states ≡ count
  states_long = simp (length-take, length-drop) (omega (arith, bytes_inside))

  held : (k : ℕ) → k < count → get_or states k 0 ≡ get_or net (at + k) 0
  held k l = get_or-take (at + count - at) (drop at net) k 0 (omega arith) ∙ get_or-drop at net k 0

  pub states_small : (k : ℕ) → get_or states k 0 < 32
  states_small k = go (dec_lt k count)
    where
      go : Dec (k < count) → get_or states k 0 < 32
      go (yes l) = rw (held k l, place k) (omega (arith, (pair_held h (from + k) u (omega arith) member).2, ready_range h))
      go (no n) = omega (arith, get_or-eq_default states 0 {n = k} (omega (arith, states_long)))

  module _ {flags flags' : List ℕ} (f : Flagged states c.marks 0 (length states) flags flags') where
    both : (k : ℕ) → k < count → (get_or flags' k 0 ≡ flag ((graph_of b net).friends (from + k) u)) × (get_or flags' k 0 ≡ flag ((graph_of b net).friends u (from + k)))
    both k l =
        let (x, y) = friends_byte h (from + k) u (at + k) (omega arith) member (place k) refl in
        let z : 0 + k ≡ k = omega arith in
        let own : get_or flags' k 0 ≡ flag (bit c.marks (get_or net (at + k) 0 % 32)) =
        f.each k (omega (arith, states_long)) ∙ ap (λ (i : ℕ). flag (bit c.marks (get_or states i 0 % 32))) z ∙ ap (λ (q : ℕ). flag (bit c.marks (q % 32))) (held k l) in
        (own ∙ ap flag x, own ∙ ap flag y)

    -- of the one below with u
    pub below_flagged : (k : ℕ) → k < count → get_or flags' k 0 ≡ flag ((graph_of b net).friends (from + k) u)
    below_flagged k l = (both k l).0

    -- of u with the one below
    pub own_flagged : (k : ℕ) → k < count → get_or flags' k 0 ≡ flag ((graph_of b net).friends u (from + k))
    own_flagged k l = (both k l).1

    -- the others stay
    pub kept_behind : (k : ℕ) → count ≤ k → get_or flags' k 0 ≡ get_or flags k 0
    kept_behind k l = f.kept k (omega (arith, states_long))
