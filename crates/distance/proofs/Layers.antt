-- Layers of marks: whom a walk of d friendships, and none of fewer, joins with v has the mark d + 1.
use Prim.Native.Nat.{ℕ, zero, suc, ◌+◌, ◌-◌, ◌<◌, ◌≤◌}
use mathlib.Core.Path.{◌≡◌, refl, ◌∙◌}
use mathlib.Core.Bool.{Bool, false}
use mathlib.Core.List.{List, [], ◌∷◌}
use mathlib.Core.Logic.{◌⊎◌, ⊎_elim}
use native.Mathlib.Decide.{dec_le, dec_lt}
use native.Mathlib.Nat.{eq-or-lt_of_le}
use native.Mathlib.Omega.{arith}
use lib.ListN.{length, get_or, set, replicate}
use Rattle.std.proofs.lemmas.List.{get_or-replicate, get_or_past}
use Rattle.model.specs.Graph.{Graph, Friends, Onward, Within}
use Rattle.model.proofs.Deciding.{Inside}
use Rattle.distance_mark.specs.Mark.{distance_at, IsDistance}
use Rattle.next_friend.proofs.Spreading.{after}
use Rattle.distance.specs.Distances.{Distances}
use Rattle.distance.specs.Marks.{Layered}

-- the marks are right up to d, and the friends of those with a lesser mark have one
pub record Layers (g : Graph) (v d : ℕ) (s : List ℕ) : Type 0 where
  pub top : (k : ℕ) → k < g.members → get_or s k 0 ≤ d
  pub sound : (k e : ℕ) → k < g.members → get_or s k 0 ≡ e + 1 → Within g e k v
  pub begun : get_or s v 0 ≡ 1
  pub outside : (k : ℕ) → g.members ≤ k → get_or s k 0 ≡ 0
  pub closed : (j k : ℕ) → j < g.members → k < g.members → 0 < get_or s j 0 → get_or s j 0 < d → Friends g k j
      → (0 < get_or s k 0) × (get_or s k 0 ≤ get_or s j 0 + 1)

-- nobody has a mark
abbrev pub cleared : List ℕ
cleared = replicate 256 0

module _ {g : Graph} {v : ℕ} where
  pub layers_begin : v < g.members → g.members ≤ 256 → Layers g v 1 (set cleared v 1)
  layers_begin lv small = record {
    top = λ k l. ⊎_elim (λ q. omega arith) (λ q. omega (arith, zero k)) (at k);
    sound = λ k e l h. ⊎_elim (λ q. ([], omega arith, q.0)) (λ q. absurd (omega (arith, zero k))) (at k);
    begun = ⊎_elim (λ q. q.1) (λ q. absurd (q.0 refl)) (at v);
    outside = λ k l. ⊎_elim (λ q. absurd (omega arith)) (λ q. q.1 ∙ zero k) (at k);
    closed = λ j k a b h o f. absurd (omega arith);
  }
    where
      at : (k : ℕ) → ((k ≡ v) × (get_or (set cleared v 1) k 0 ≡ 1)) ⊎ ((k ≡ v → ⊥) × (get_or (set cleared v 1) k 0 ≡ get_or cleared k 0))
      at k = after cleared v 1 k (omega arith)

      zero : (k : ℕ) → get_or cleared k 0 ≡ 0
      zero k = elim (dec_lt k 256) [ yes l ↦ get_or-replicate 256 k 0 0 l | no l ↦ get_or_past cleared k 0 (omega arith) ]

  -- where all with a mark up to the limit are below the layer, the marks are the distances
  module _ {d : ℕ} {s : List ℕ} (limit : ℕ) (x : Layers g v d s) (inside : Inside g)
      (few : d ≤ limit + 1) (ended : (j : ℕ) → j < g.members → get_or s j 0 ≤ limit → get_or s j 0 < d) where
    walked : (l : List ℕ) (m : ℕ) → m < g.members → length l ≤ limit → Onward (Friends g) m l v
        → (0 < get_or s m 0) × (get_or s m 0 ≤ length l + 1)
    walked [] m lm b o = rw o (omega (arith, x.begun))
    walked (y ∷ l) m lm b (f, o) =
        let ly = inside m y f in
        let (p, q) = walked l y ly (omega arith) o in
        omega (arith, x.closed y m ly lm p (ended y ly (omega arith)) f)

    pub layers_distances : Distances g v limit s
    layers_distances = record { each = λ m lm. at m lm (get_or s m 0) refl; outside = x.outside }
      where
        at : (m : ℕ) → m < g.members → (e : ℕ) → get_or s m 0 ≡ e → IsDistance g limit m v (distance_at e)
        at m lm zero z = λ (l, b, o). omega (arith, walked l m lm b o)
        at m lm (suc e) z = (omega (arith, x.top m lm), (x.sound m e lm (omega arith), λ k (l, b, o). least l k b o))
          where
            least : (l : List ℕ) (k : ℕ) → length l ≤ k → Onward (Friends g) m l v → e ≤ k
            least l k b o =
                elim (dec_le (length l) limit) [
                  | yes p ↦ omega (arith, walked l m lm p o)
                  | no n ↦ omega (arith, x.top m lm)
                ]

  module _ {d n : ℕ} {s t : List ℕ} {some : Bool} (x : Layers g v d s) (y : Layered g d s n t some) (all : g.members ≤ n) (pos : 0 < d) (lv : v < g.members) where
    kept : (k : ℕ) → k < g.members → 0 < get_or s k 0 → get_or t k 0 ≡ get_or s k 0
    kept k l h = ⊎_elim (λ w. w) (λ w. omega arith) (y.spread.each k l)

    old : (k : ℕ) → k < g.members → get_or t k 0 < d + 1 → get_or t k 0 ≡ get_or s k 0
    old k l h = ⊎_elim (λ w. w) (λ w. omega arith) (y.spread.each k l)

    high : (k : ℕ) → k < g.members → get_or t k 0 ≤ d + 1
    high k l = ⊎_elim (λ w. omega (arith, x.top k l)) (λ w. omega arith) (y.spread.each k l)

    pub layers_step : Layers g v (d + 1) t
    layers_step = record {
      top = high;
      sound = λ k e l q.
          ⊎_elim
          (λ w. x.sound k e l (omega arith))
          (λ w.
          let j = w.2.0 in
          let (walk, short, on) = x.sound j (d - 1) w.2.1 (omega (arith, w.2.2.1)) in
          (j ∷ walk, omega arith, (w.2.3, on)))
          (y.spread.each k l);
      begun = omega (arith, x.begun, kept v lv (omega (arith, x.begun)));
      outside = λ k a. y.spread.outside k a ∙ x.outside k a;
      closed = λ j k a b h o f.
          let q : get_or t j 0 ≡ get_or s j 0 = old j a o in
          ⊎_elim
          (λ (r : get_or s j 0 ≡ d). (y.spread.marked j k a b (omega arith, r) f, omega (arith, high k b)))
          (λ (r : get_or s j 0 < d).
          let z = x.closed j k a b (omega arith) r f in
          omega (arith, kept k b z.0))
          (eq-or-lt_of_le (x.top j a));
    }

    -- where nobody had the mark d, or everybody has one
    pub layers_ended : (limit : ℕ) → Inside g → d ≤ limit → some ≡ false → Distances g v limit t
    layers_ended limit inside few none = layers_distances limit full inside (omega arith) (λ j l o. omega arith)
      where
        full : Layers g v (limit + 1) t
        full = record {
          top = λ k l. omega (arith, high k l);
          sound = layers_step.sound;
          begun = layers_step.begun;
          outside = layers_step.outside;
          closed = λ j k a b h o f.
              elim (dec_lt (get_or t j 0) (d + 1)) [
                | yes l ↦ layers_step.closed j k a b h l f
                | no l ↦
                    ⊎_elim (λ w. absurd (omega (arith, x.top j a)))
                    (λ w. (y.ended none w.2.0 (omega (arith, w.2.1)) w.2.2.1 k b, omega (arith, high k b))) (y.spread.each j a)
              ];
        }
