-- What the validity check computes, over the bytes of a network.
use Prim.Native.Nat.{ℕ, ◌+◌, ◌*◌, ◌-◌, ◌%◌, ◌<◌, ◌≤◌}
use mathlib.Core.Bool.{true}
use mathlib.Core.List.{List}
use mathlib.Core.Logic.{◌↔◌}
use mathlib.Core.Path.{◌≡◌, refl, sym, ap, ◌∙◌}
use native.Mathlib.Omega.{arith}
use lib.Arith.{digits_lt}
use lib.ListN.{length, take, drop}
use Rattle.std.proofs.lemmas.List.{get_or-take, get_or-drop}
use Rattle.model.specs.Bytes.{byte, bit}
use Rattle.model.specs.Network.{Valid, size, setting_place, pair_place, pairs}
use Rattle.model.specs.SchemeBytes.{P}
use Rattle.model.proofs.Bits.{bit_below}
use Rattle.model.proofs.Held.{held_state, held_setting}
use Rattle.model.proofs.Places.{pair_onto, pair_before, setting_onto}
use Rattle.tables.specs.Schemes.{scheme_in}
use Rattle.tables.specs.declared.reading.Scheme.{Scheme}
use Rattle.validity.specs.Chosen.{Chosen, ColumnOffered, Offered}

-- ---- the settings of a resource

abbrev resources_of : Scheme → ℕ
resources_of s = 2 + s.counts.primitives + s.counts.items

module _ (s : Scheme) (settings : List ℕ) (sized : length settings ≡ s.counts.members * resources_of s) {r : ℕ} (l : r < resources_of s) where
  pub inside : (m : ℕ) → m < s.counts.members → r + m * resources_of s < length settings
  inside m a = let z : m * resources_of s + r < s.counts.members * resources_of s = digits_lt a l in omega arith

  module _ {mask : ℕ} (e : mask ≡ (scheme_in s).mask r) where
    at : (m : ℕ) → bit mask (byte settings (r + m * resources_of s)) ≡ bit ((scheme_in s).mask r) (byte settings (m * resources_of s + r))
    at m = let t : r + m * resources_of s ≡ m * resources_of s + r = omega arith in rw (t, e) refl

    -- all settings are in a wider set, and the mask has that
    pub wider_offered : (wider : ℕ) → ((k : ℕ) → k < length settings → bit wider (byte settings k) ≡ true) → ((p : ℕ) → bit wider p ≡ true → bit mask p ≡ true)
        → ColumnOffered s settings r
    wider_offered wider w h m a = sym (at m) ∙ h _ (w _ (inside m a))

    -- the settings are in the mask where all that they choose is
    module _ {set : ℕ} (g : Chosen settings r (resources_of s) s.counts.members set) where
      pub chosen_offered : ((p : ℕ) → bit set p ≡ true → bit mask p ≡ true) → ColumnOffered s settings r
      chosen_offered h m a = sym (at m) ∙ h _ (g.has m a)

      pub offered_chosen : ColumnOffered s settings r → (p : ℕ) → bit set p ≡ true → bit mask p ≡ true
      offered_chosen h p b = let (m, a, f) = g.only p b in ap (bit mask) (sym f) ∙ at m ∙ h m a

-- ---- validity byte by byte

-- the greatest of some bytes, each raised by 0
abbrev Most : List ℕ → ℕ → Type 0
Most b most = (limit : ℕ) → (most ≤ limit) ↔ ((k : ℕ) → k < length b → (byte b k + 0) % 256 ≤ limit)

pub most_below : (b : List ℕ) (most limit : ℕ) → Most b most → 1 ≤ limit → limit ≤ 256 → ((k : ℕ) → k < length b → byte b k < limit) → most < limit
most_below b most limit m a z h =
    let l : most ≤ limit - 1 = (m (limit - 1)).1 (λ k d. omega (arith, h k d)) in
    omega arith

pub none_above : (b : List ℕ) (most k : ℕ) → Most b most → byte b k < 256 → k < length b → byte b k ≤ most
none_above b most k m a d = let l : (byte b k + 0) % 256 ≤ most = (m most).0 (omega arith) k d in omega arith

-- the states and the settings, apart
module _ (s : Scheme) (net : List ℕ) {states settings : List ℕ} {mid : ℕ} (e : mid ≡ pairs s.counts.members) (f : states ≡ take mid net) (g : settings ≡ drop mid net)
    (n : length states ≡ mid) (o : length settings + mid ≡ length net) where
  byte_at : (m r : ℕ) → byte settings (m * resources_of s + r) ≡ byte net (setting_place (scheme_in s) m r)
  byte_at m r =
      let h = s.read.counts in
      let p : mid + (m * resources_of s + r) ≡ setting_place (scheme_in s) m r = rw (e, h.members, h.primitives, h.items) refl in
      rw g (get_or-drop mid net (m * resources_of s + r) 0 ∙ ap (byte net) p)

  state_at : (k : ℕ) → k < length states → byte states k ≡ byte net k
  state_at k l = rw f (get_or-take mid net k 0 (omega arith))

  pub valid_states : Valid (scheme_in s) net → (k : ℕ) → k < length states → byte states k < s.counts.states
  valid_states v k l =
      let h = s.read.counts in
      let (i, j, a, d, p) = pair_onto (scheme_in s).members k (rw (← h.members, ← e, ← n) l) in
      omega (arith, state_at k l, ap (byte net) p, held_state (scheme_in s) net i j a d, v.fits.states i j a d, h.states)

  pub valid_offered : Valid (scheme_in s) net → Offered s settings
  valid_offered v r d m a =
      let h = s.read.counts in
      let x : m < (scheme_in s).members = omega (arith, h) in
      let y : r < 2 + (scheme_in s).primitives + (scheme_in s).items = omega (arith, h) in
      rw (byte_at m r) (rw (held_setting (scheme_in s) net m r x y) at (v.fits.settings m r x y))

  pub offered_below : length net ≡ size (scheme_in s) → Offered s settings → (k : ℕ) → k < length settings → byte settings k < 32
  offered_below l q k u =
      let h = s.read.counts in
      let start : pairs (scheme_in s).members ≤ mid + k = rw (e, h.members) (omega arith) in
      let (m, r, a, d, p) = setting_onto (scheme_in s) (mid + k) start (omega arith) in
      let x : r < resources_of s = omega (arith, h) in
      let y : m < s.counts.members = omega (arith, h) in
      let b : ℕ = byte net (setting_place (scheme_in s) m r) in
      let z : b < P s.bytes.now = bit_below ((scheme_in s).mask r) (P s.bytes.now) b (s.read.bytes.masks r d).1 (rw (byte_at m r) at (q r x m y)) in
      rw g (rw (get_or-drop mid net k 0, p) (omega (arith, h.policies, s.read.range.policies)))

  pub valid_if : length net ≡ size (scheme_in s) → ((k : ℕ) → k < length states → byte states k < s.counts.states) → Offered s settings
      → Valid (scheme_in s) net
  valid_if l t q =
      let h = s.read.counts in
      record {
        sized = l;
        fits = record {
          states = λ i j a d.
              let y : pair_place i j < pairs (scheme_in s).members = pair_before i j (scheme_in s).members a d in
              let z : pair_place i j < length states = rw (n, e, h.members) y in
              omega (arith, held_state (scheme_in s) net i j a d, state_at (pair_place i j) z, t (pair_place i j) z, h.states);
          settings = λ m r a d.
              let x : r < resources_of s = omega (arith, h) in
              let y : m < s.counts.members = omega (arith, h) in
              rw (held_setting (scheme_in s) net m r a d) (rw (byte_at m r) at (q r x m y));
        };
      }
