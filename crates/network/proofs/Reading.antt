-- What is known of a network that passes 5: the counts, and where each byte stands.
use Prim.Native.Nat.{ℕ, ◌+◌, ◌*◌, ◌%◌, ◌<◌, ◌≤◌, min, max}
use mathlib.Core.Path.{◌≡◌, refl, sym, ap, ◌∙◌}
use mathlib.Core.Bool.{Bool, false, and-false}
use mathlib.Core.List.{List}
use native.Mathlib.Nat.{mul-le-mul_right, suc-mul}
use native.Mathlib.Numerals.{add-one}
use native.Mathlib.Decide.{dec_lt}
use native.Mathlib.Omega.{arith}
use borrow.Author.Tests.{eq-eqb, ne_eqb, lt-ltb, le-ltb}
use lib.ListN.{length, get_or}
use Rattle.model.specs.Bytes.{bit}
use Rattle.model.specs.Network.{Maps, pairs, pair_place, setting_place, held, state_of}
use Rattle.model.specs.SchemeBytes.{n, A, I, P, scheme_of}
use Rattle.model.proofs.Bits.{bit_below}
use Rattle.model.proofs.Held.{held_state, held_setting, other_state}
use Rattle.model.proofs.Places.{pairs_suc, pairs_mono, pair_before, setting_before}
use Rattle.tables.specs.Read.{InRange, ReadAs}
use Rattle.tables.specs.declared.counts.Summary.{Summary}
use Rattle.tables.proofs.Accepting.{accepted_read}
use Rattle.network.specs.Ready.{Ready, graph_of}

pub pairs_small : (n : ℕ) → n ≤ 256 → pairs n ≤ 32640
pairs_small n h = pairs_mono n 256 h

pub pairs_more : (n : ℕ) → pairs (n + 1) ≡ pairs n + n
pairs_more n = ap pairs (add-one n) ∙ pairs_suc n

-- the state of two members, the lesser first
pub pair_state : (s : Maps) (i j : ℕ) → i < j → (state_of s i j ≡ s.pair i j) × (state_of s j i ≡ s.pair i j)
pair_state s i j h =
    let a : min i j ≡ i = omega arith in
    let b : max i j ≡ j = omega arith in
    let d : min j i ≡ i = omega arith in
    let e : max j i ≡ j = omega arith in
    (other_state s i j (λ z. omega arith) ∙ rw (a, b), other_state s j i (λ z. omega arith) ∙ rw (d, e))

-- nobody is its own friend
pub friends_own : (b net : List ℕ) (u v : ℕ) → u ≡ v → (graph_of b net).friends u v ≡ false
friends_own b net u v e = simp (eq-eqb u v e, and-false)

pub friends_outside : (b net : List ℕ) (u m : ℕ) → n b ≤ m → (graph_of b net).friends u m ≡ false
friends_outside b net u m l = simp (le-ltb m (n b) l, and-false)

module _ {b : List ℕ} {c : Summary} {net : List ℕ} (h : Ready b c net) where
  pub ready_read : ReadAs b c
  ready_read = accepted_read h.accepted h.counts

  pub ready_range : InRange c
  ready_range = ready_read.range

  -- the byte of the pair i < j
  pub pair_inside : (i j : ℕ) → i < j → j < c.members → pair_place i j < length net
  pair_inside i j a d =
      let z : pair_place i j < pairs (n b) = pair_before i j (n b) a (omega arith) in
      omega (arith, h.valid.sized)

  pub pair_held : (i j : ℕ) → i < j → j < c.members
      → (get_or net (pair_place i j) 0 ≡ state_of (held (scheme_of b) net) i j)
      × (get_or net (pair_place i j) 0 ≡ state_of (held (scheme_of b) net) j i)
      × (get_or net (pair_place i j) 0 < c.states)
  pair_held i j a d =
      let m : j < n b = omega arith in
      let e = held_state (scheme_of b) net i j a m in
      let (x, y) = pair_state (held (scheme_of b) net) i j a in
      (sym (x ∙ e), sym (y ∙ e), omega (arith, e, h.valid.fits.states i j a m))

  -- the state of two members who are two
  pub state_held : (u v : ℕ) → u < c.members → v < c.members → (u ≡ v → ⊥)
      → (get_or net (pair_place (min u v) (max u v)) 0 ≡ state_of (held (scheme_of b) net) u v)
      × (get_or net (pair_place (min u v) (max u v)) 0 < c.states)
  state_held u v k l d =
      elim (dec_lt u v) [
        | yes a ↦
            let x : min u v ≡ u = omega arith in
            let y : max u v ≡ v = omega arith in
            let e : get_or net (pair_place (min u v) (max u v)) 0 ≡ get_or net (pair_place u v) 0 = rw (x, y) refl in
            let (p, q, r) = pair_held u v a l in (e ∙ p, omega (arith, e, r))
        | no a ↦
            let x : min u v ≡ v = omega arith in
            let y : max u v ≡ u = omega arith in
            let e : get_or net (pair_place (min u v) (max u v)) 0 ≡ get_or net (pair_place v u) 0 = rw (x, y) refl in
            let (p, q, r) = pair_held v u (omega (arith, a, d)) k in (e ∙ q, omega (arith, e, r))
      ]

  -- the byte of member m's setting for resource r
  pub setting_at : (m r : ℕ) → pairs c.members + (m * (2 + c.primitives + c.items) + r) ≡ setting_place (scheme_of b) m r
  setting_at m r = rw (h.counts.members, h.counts.primitives, h.counts.items)

  pub setting_inside : (m r : ℕ) → m < c.members → r < 2 + c.primitives + c.items → setting_place (scheme_of b) m r < length net
  setting_inside m r a d = omega (arith, h.valid.sized, setting_before (scheme_of b) m r (omega arith) (omega arith))

  pub setting_held : (m r : ℕ) → m < c.members → r < 2 + c.primitives + c.items
      → (get_or net (setting_place (scheme_of b) m r) 0 ≡ (held (scheme_of b) net).setting m r) × (get_or net (setting_place (scheme_of b) m r) 0 < c.policies)
  setting_held m r a d =
      let k : m < n b = omega arith in
      let l : r < 2 + A b + I b = omega arith in
      let e = held_setting (scheme_of b) net m r k l in
      let p : (held (scheme_of b) net).setting m r < P b =
      bit_below ((scheme_of b).mask r) (P b) ((held (scheme_of b) net).setting m r) (ready_read.bytes.masks r l).1 (h.valid.fits.settings m r k l) in
      (sym e, omega (arith, e))

  -- two members are friends where their state is marked
  pub friends_marked : (u v q : ℕ) → u < c.members → v < c.members → (u ≡ v → ⊥)
      → q ≡ state_of (held (scheme_of b) net) u v
      → q < c.states
      → bit c.marks q ≡ (graph_of b net).friends u v
  friends_marked u v q k l d e s =
      let x : u < n b = omega arith in
      let y : v < n b = omega arith in
      h.marks.marked q s ∙ ap (scheme_of b).friendly e ∙ simp (lt-ltb u (n b) x, lt-ltb v (n b) y, ne_eqb u v d)

  -- as the byte of a pair says
  pub friends_byte : (i j at : ℕ) {r : Bool} → i < j → j < c.members → at ≡ pair_place i j
      → r ≡ bit c.marks (get_or net at 0 % 32)
      → (r ≡ (graph_of b net).friends i j) × (r ≡ (graph_of b net).friends j i)
  friends_byte i j at a d p e =
      let q : ℕ = get_or net (pair_place i j) 0 in
      let (x, y, l) = pair_held i j a d in
      let s : q % 32 ≡ q = omega (arith, ready_range) in
      let f = e ∙ ap (λ (x : ℕ). bit c.marks (get_or net x 0 % 32)) p ∙ ap (bit c.marks) s in (
        f ∙ friends_marked i j q (omega arith) d (λ z. omega arith) x l,
        f ∙ friends_marked j i q d (omega arith) (λ z. omega arith) y l,
      )

-- the place of the next member's setting, a stride further, and that it is within the last's
pub stride_next : (at stride m members : ℕ) {k : ℕ} → k ≡ at + m * stride → m < members → (k + stride ≡ at + (m + 1) * stride) × (k + stride ≤ at + members * stride)
stride_next at stride m members e h =
    let n : (m + 1) * stride ≡ m * stride + stride = rw (add-one, suc-mul) in
    let l : (m + 1) * stride ≤ members * stride = mul-le-mul_right stride (omega arith) in
    (omega arith, omega arith)
