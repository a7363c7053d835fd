-- The loops that mark friends, turn by turn.
use Prim.Native.Nat.{ℕ, ◌+◌, ◌<◌, ◌≤◌}
use mathlib.Core.Path.{◌≡◌, refl, sym, ap, ◌∙◌}
use mathlib.Core.Bool.{Bool, true, false, cond, true≢false}
use mathlib.Core.List.{List}
use mathlib.Core.Logic.{◌⊎◌, inl, inr, ⊎_elim}
use native.Mathlib.Decide.{dec_lt, ℕ_discrete}
use native.Mathlib.Nat.{eq-or-lt_of_le, le_of_suc-le-suc}
use native.Mathlib.Numerals.{add-one}
use native.Mathlib.Omega.{arith}
use lib.ListN.{length, get_or, set, length-set}
use lib.Seq.{get_or-set_same, get_or-set_other, set-get_or}
use Rattle.model.specs.Graph.{Graph, Friends}
use Rattle.next_friend.specs.First.{NoneMarked}
use Rattle.next_friend.specs.Spread.{Marked, Spread, Run}

-- the mark at k after a store at i: the one stored, or the one that was there
pub after : (l : List ℕ) (i a k : ℕ) → i < length l
    → ((k ≡ i) × (get_or (set l i a) k 0 ≡ a)) ⊎ ((k ≡ i → ⊥) × (get_or (set l i a) k 0 ≡ get_or l k 0))
after l i a k h = go (ℕ_discrete k i)
  where
    go : Dec (k ≡ i) → ((k ≡ i) × (get_or (set l i a) k 0 ≡ a)) ⊎ ((k ≡ i → ⊥) × (get_or (set l i a) k 0 ≡ get_or l k 0))
    go (yes e) = inl (e, rw e (get_or-set_same l i a 0 h))
    go (no d) = inr (d, get_or-set_other l i k a 0 d)

pub last : {k i : ℕ} → k < i + 1 → (k ≡ i) ⊎ (k < i)
last l = eq-or-lt_of_le (le_of_suc-le-suc (rw add-one at l))

-- the same marks, where other pairs are the tried ones
pub spread_same : {g : Graph} {T U : ℕ → ℕ → Type 0} {mark : ℕ} {old new : List ℕ} → Spread g T mark old new → ((j k : ℕ) → T j k → U j k)
    → ((j k : ℕ) → j < g.members → k < g.members → U j k → Friends g k j → T j k ⊎ (0 < get_or new k 0))
    → Spread g U mark old new
spread_same x f h = record {
  size = x.size;
  marked = λ j k a b u e. ⊎_elim (λ t. x.marked j k a b t e) (λ p. p) (h j k a b u e);
  each = λ k a. ⊎_elim (λ w. inl w) (λ w. inr (w.0, w.1, (w.2.0, w.2.1, f w.2.0 k w.2.2, w.2.3))) (x.each k a);
  outside = x.outside;
}

module _ {g : Graph} {mark : ℕ} {old new : List ℕ} {m from i : ℕ} (x : Spread g (Run m from i) mark old new) where
  pass : (Friends g i m → 0 < get_or new i 0) → Spread g (Run m from (i + 1)) mark old new
  pass h =
      spread_same x (λ j k t. (t.0, t.1, omega (arith, t.2)))
      (λ j k a b u e. ⊎_elim (λ q. inr (rw q (h (rw (q, u.0) at e)))) (λ l. inl (u.0, u.1, l)) (last u.2))

  -- i has a mark
  pub spread_pass : (get_or new i 0 ≡ 0 → ⊥) → Spread g (Run m from (i + 1)) mark old new
  spread_pass h = pass (λ f. omega arith)

  -- i is no friend
  pub spread_stranger : {r : Bool} → r ≡ g.friends i m → r ≡ false → Spread g (Run m from (i + 1)) mark old new
  spread_stranger e n = pass (λ f. absurd (true≢false (sym f ∙ sym e ∙ n)))

  -- i is a friend without a mark
  pub spread_mark : {r : Bool} → from ≤ i → i < g.members → m < g.members → g.members ≤ 256 → 0 < mark → get_or new i 0 ≡ 0 → r ≡ g.friends i m
      → r ≡ true
      → Spread g (Run m from (i + 1)) mark old (set new i mark)
  spread_mark onward li lm small pos z e y = record {
    size = simp length-set x.size;
    marked = λ j k a b u f.
        ⊎_elim (λ q. omega arith) (λ q. omega (arith, x.marked j k a b (u.0, u.1, omega (arith, u.2, q.0)) f)) (at k);
    each = λ k a.
        ⊎_elim
        (λ q. inr (rw q.0 unmarked, q.1, (m, lm, (refl, omega arith, omega (arith, q.0)), rw q.0 (sym e ∙ y))))
        (λ q.
        ⊎_elim (λ w. inl (omega arith))
        (λ w. inr (w.0, omega arith, (w.2.0, w.2.1, (w.2.2.0, w.2.2.1, omega (arith, w.2.2.2)), w.2.3))) (x.each k a))
        (at k);
    outside = λ k a. ⊎_elim (λ q. absurd (omega (arith, q.0))) (λ q. q.1 ∙ x.outside k a) (at k);
  }
    where
      at : (k : ℕ) → ((k ≡ i) × (get_or (set new i mark) k 0 ≡ mark)) ⊎ ((k ≡ i → ⊥) × (get_or (set new i mark) k 0 ≡ get_or new k 0))
      at k = after new i mark k (omega (arith, x.size))

      unmarked : get_or old i 0 ≡ 0
      unmarked = ⊎_elim (λ w. omega arith) (λ w. w.0) (x.each i li)

  -- i has no mark: it gets one as a friend, and none otherwise
  pub spread_told : (r : Bool) (a : ℕ) → from ≤ i → i < g.members → m < g.members → g.members ≤ 256 → 0 < mark → get_or new i 0 ≡ 0 → r ≡ g.friends i m
      → a ≡ cond r mark 0
      → Spread g (Run m from (i + 1)) mark old (set new i a)
  spread_told true a onward li lm small pos z e t = rw t (spread_mark onward li lm small pos z e refl)
  spread_told false a onward li lm small pos z e t =
      let same : set new i 0 ≡ new = ap (set new i) (sym z) ∙ set-get_or new i 0 in
      rw (t, same) (spread_stranger e refl)

-- first some pairs, then others
pub spread_then : {g : Graph} {T U : ℕ → ℕ → Type 0} {mark : ℕ} {old new far : List ℕ} → Spread g T mark old new → Spread g U mark new far
    → Spread g (λ j k. T j k ⊎ U j k) mark old far
spread_then {new = new} x y = record {
  size = y.size;
  marked = λ j k a b t e.
      ⊎_elim
      (λ t. let z : 0 < get_or new k 0 = x.marked j k a b t e in ⊎_elim (λ w. omega arith) (λ w. omega arith) (y.each k b))
      (λ u. y.marked j k a b u e)
      t;
  each = λ k a.
      ⊎_elim
      (λ w.
      ⊎_elim (λ z. inl (omega arith)) (λ z. inr (z.0, omega arith, (z.2.0, z.2.1, inl z.2.2, z.2.3))) (x.each k a))
      (λ w.
      inr (⊎_elim (λ z. omega arith) (λ z. z.0) (x.each k a), w.1, (w.2.0, w.2.1, inr w.2.2, w.2.3)))
      (y.each k a);
  outside = λ k a. y.outside k a ∙ x.outside k a;
}

-- marks stay
pub still_marked : {g : Graph} {Tried : ℕ → ℕ → Type 0} {mark n i : ℕ} {old new : List ℕ} → Spread g Tried mark old new → 0 < mark
    → n ≤ g.members
    → Marked n old i
    → Marked n new i
still_marked {old = old} x pos small h = record {
  inside = h.inside;
  below = λ k l.
      let z : 0 < get_or old k 0 = h.below k l in
      ⊎_elim (λ w. omega arith) (λ w. omega arith) (x.each k (omega (arith, h.inside)));
}

-- up to the first without a mark, all have one
pub marked_to : {from end : ℕ} (marks : List ℕ) → ((k : ℕ) → k < from → 0 < get_or marks k 0) → NoneMarked 0 marks from end
    → (k : ℕ) → k < end
    → 0 < get_or marks k 0
marked_to {from} marks h none k l =
    elim (dec_lt k from) [ yes a ↦ h k a | no a ↦ let z = none k (omega arith) l in omega arith ]

-- all before a member have a mark
module _ {g : Graph} {mark m n from : ℕ} {old new : List ℕ} (pos : 0 < mark) (e : n ≡ g.members) (h : Marked n old from) where
  whole : {T : ℕ → ℕ → Type 0} → Spread g T mark old new → ((j k : ℕ) → T j k → j ≡ m)
      → ((k : ℕ) → from ≤ k → k < n → Friends g k m → T m k)
      → Spread g (λ j k. j ≡ m) mark old new
  whole x own all =
      spread_same x own
      (λ j k a b u f.
      elim (dec_lt k from) [ yes l ↦ inr ((still_marked x pos (omega arith) h).below k l) | no o ↦ inl (rw u (all k (omega arith) (omega arith) (rw u at f))) ])

  -- all friends of m from there on were tried
  pub spread_onward : Spread g (Run m from n) mark old new → Spread g (λ j k. j ≡ m) mark old new
  spread_onward x = whole x (λ j k t. t.0) (λ k a b f. (refl, a, b))

  -- those below m, and then those above m, who is no friend of itself
  pub spread_around : {mid : List ℕ} → g.friends m m ≡ false → Spread g (Run m from m) mark old mid → Spread g (Run m (m + 1) n) mark mid new
      → Spread g (λ j k. j ≡ m) mark old new
  spread_around o x y =
      whole (spread_then x y) (λ j k t. ⊎_elim (λ t. t.0) (λ t. t.0) t)
      (λ k a b f.
      elim (ℕ_discrete k m) [
        | yes q ↦ absurd (true≢false (sym (rw q at f) ∙ o))
        | no d ↦ elim (dec_lt k m) [ yes l ↦ inl (refl, a, l) | no l ↦ inr (refl, omega arith, b) ]
      ])
