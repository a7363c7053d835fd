-- The maps that bytes hold, byte by byte, and the bytes that maps fix.
use Prim.Native.Nat.{ℕ, ◌<◌, min, max}
use mathlib.Core.Path.{◌≡◌, refl, sym, ◌∙◌, ap, fun_ext}
use mathlib.Core.Bool.{Bool, true, false, ◌&&◌, cond}
use mathlib.Core.List.{List}
use native.Mathlib.Omega.{arith}
use native.Mathlib.Decide.{dec_lt}
use borrow.Author.Tests.{eq-eqb, ne_eqb}
use lib.Dec.{eqb, ltb}
use lib.ListN.{length, get_or, get_or-eq_default}
use lib.Seq.{ext_get_or}
use Rattle.model.specs.Scheme.{Scheme, resources}
use Rattle.model.specs.Network.{Maps, fresh, pairs, pair_place, setting_place, size, Laid, held, state_of}
use Rattle.model.proofs.Deciding.{Says, is_eq, is_lt, conj}
use Rattle.model.proofs.Places.{pair_onto, setting_onto}

-- a choice by a test: each side under what the test says
pub by_test : {b : Bool} {P : Type 0} {x y z : ℕ} → Says b P → (P → x ≡ z) → ((P → ⊥) → y ≡ z) → cond b x y ≡ z
by_test {b} {P} {x} {y} {z} d f g = go b d.yes_if d.no_if
  where
    go : (t : Bool) → (t ≡ true → P) → (t ≡ false → P → ⊥) → cond t x y ≡ z
    go true p n = f (p refl)
    go false p n = g (n refl)

pub is_pair : (c : Scheme) (i j : ℕ) → Says (ltb i j && ltb j c.members) ((i < j) × (j < c.members))
is_pair c i j = conj (is_lt i j) (is_lt j c.members)

pub is_setting : (c : Scheme) (m r : ℕ) → Says (ltb m c.members && ltb r (resources c)) ((m < c.members) × (r < resources c))
is_setting c m r = conj (is_lt m c.members) (is_lt r (resources c))

pub at_place : (i j k l : ℕ) → Says (eqb k i && eqb l j) ((k ≡ i) × (l ≡ j))
at_place i j k l = conj (is_eq k i) (is_eq l j)

-- maps are equal where their values are
pub maps_path : (s t : Maps) → ((i j : ℕ) → s.pair i j ≡ t.pair i j) → ((m r : ℕ) → s.setting m r ≡ t.setting m r) → s ≡ t
maps_path s t p q =
    let p' : s.pair ≡ t.pair = fun_ext (λ i. fun_ext (λ j. p i j)) in
    let q' : s.setting ≡ t.setting = fun_ext (λ m. fun_ext (λ r. q m r)) in
    λ i. record { pair = p' i; setting = q' i }

module _ (c : Scheme) (net : List ℕ) where
  pub held_state : (i j : ℕ) → i < j → j < c.members → (held c net).pair i j ≡ get_or net (pair_place i j) 0
  unfolding held
  held_state i j a b = by_test (is_pair c i j) (λ h. refl) (λ n. absurd (n (a, b)))

  pub held_setting : (m r : ℕ) → m < c.members → r < resources c → (held c net).setting m r ≡ get_or net (setting_place c m r) 0
  unfolding held
  held_setting m r a b = by_test (is_setting c m r) (λ h. refl) (λ n. absurd (n (a, b)))

-- bytes of the right length are the layout of what they hold
pub held_laid : (c : Scheme) (net : List ℕ) → length net ≡ size c → Laid c (held c net) net
held_laid c net e = record {
  sized = e;
  states = λ i j a b. sym (held_state c net i j a b);
  settings = λ m r a b. sym (held_setting c net m r a b);
}

-- a fresh network holds the fresh maps
pub held_fresh : (c : Scheme) (net : List ℕ) → Laid c (fresh c) net → held c net ≡ fresh c
unfolding held
held_fresh c net l =
    maps_path (held c net) (fresh c) (λ i j. by_test (is_pair c i j) (λ (a, b). l.states i j a b) (λ n. refl))
    (λ m r. by_test (is_setting c m r) (λ (a, b). l.settings m r a b) (λ n. refl))

-- a member's own state is 0, whatever the map holds
pub own_state : (s : Maps) (u : ℕ) → state_of s u u ≡ 0
own_state s u = rw (eq-eqb u u refl)

pub other_state : (s : Maps) (u v : ℕ) → (u ≡ v → ⊥) → state_of s u v ≡ s.pair (min u v) (max u v)
other_state s u v n = rw (ne_eqb u v n)

-- maps that are equal but for some settings fix the bytes elsewhere
pub laid_same : (c : Scheme) (s s' : Maps) (net net' : List ℕ) → Laid c s net → Laid c s' net' → s.pair ≡ s'.pair
    → (k : ℕ) → ((m r : ℕ) → k ≡ setting_place c m r → s.setting m r ≡ s'.setting m r) → get_or net k 0 ≡ get_or net' k 0
laid_same c s s' net net' l l' p k q = go (dec_lt k (pairs c.members)) (dec_lt k (size c))
  where
    go : Dec (k < pairs c.members) → Dec (k < size c) → get_or net k 0 ≡ get_or net' k 0
    go (yes b) d =
        let (i, j, x, y, e) = pair_onto c.members k b in
        rw e (l.states i j x y ∙ ap (λ (f : ℕ → ℕ → ℕ). f i j) p ∙ sym (l'.states i j x y))
    go (no b) (yes d) =
        let (m, r, x, y, e) = setting_onto c k (omega arith) d in
        rw e (l.settings m r x y ∙ q m r e ∙ sym (l'.settings m r x y))
    go (no b) (no d) = get_or-eq_default net 0 (omega (arith, l.sized)) ∙ sym (get_or-eq_default net' 0 (omega (arith, l'.sized)))

-- the maps fix every byte
pub laid_once : (c : Scheme) (s : Maps) (net net' : List ℕ) → Laid c s net → Laid c s net' → net ≡ net'
laid_once c s net net' l l' = ext_get_or 0 net net' (l.sized ∙ sym l'.sized) (λ k b. laid_same c s s net net' l l' refl k (λ m r e. refl))
