-- Equal inputs leave no two results: a filled buffer, and how long the whole text is.
use Prim.Native.Nat.{ℕ, zero, suc, ◌<◌}
use mathlib.Core.Path.{◌≡◌, refl, sym, ap, ◌∙◌}
use mathlib.Core.List.{List, [], ◌++◌}
use mathlib.Core.Logic.{inl}
use native.Mathlib.Omega.{arith}
use native.Mathlib.Decide.{dec_lt}
use lib.ListN.{length}
use Rattle.std.specs.Prelude.{Ok}
use Rattle.model.specs.Text.{start}
use Rattle.model.proofs.Texts.{text_once}
use Rattle.fresh_start.specs.Stands.{Moment, Stepped}
use Rattle.fresh_start.proofs.Once.{stepped_once}
use Rattle.replay.specs.Fills.{Goes, Steps, Fills, Printed}

module _ (b log : List ℕ) where
  -- equally many steps from a moment lead to one
  steps_once : (k : ℕ) (m n o : Moment) → Steps b log k m n → Steps b log k m o → n ≡ o
  steps_once zero m n o e f = sym e ∙ f
  steps_once (suc k) m n o (at, s, _, one) (there, t, _, other) =
      let e : there ≡ at = steps_once k m there at t s in
      stepped_once one (same_from e other)
    where
      same_from : {x y : Moment} → x ≡ y → Stepped b log x o → Stepped b log y o
      same_from e h = rw e at h

  same_count : (j k : ℕ) (m n : Moment) → j ≡ k → Steps b log j m n → Steps b log k m n
  same_count j k m n e s = rw e at s

  -- before the last of more steps the program goes on
  goes_before : (j k : ℕ) (m n : Moment) → j < k → Steps b log k m n → (at : Moment) × Steps b log j m at × Goes at
  goes_before j zero m n h s = absurd (omega arith)
  goes_before j (suc k) m n h (at, s, g, _) = elim (dec_lt j k) [ yes l ↦ goes_before j k m at l s | no l ↦ (at, same_count k j m at (omega arith) s, g) ]

  -- where one stops, another does not go on
  no_more : (j k : ℕ) (m n o : Moment) → j < k → Steps b log j m n → (Goes n → ⊥) → Steps b log k m o → ⊥
  no_more j k m n o h s stop t =
      let (at, before, g) = goes_before j k m o h t in
      let e : at ≡ n = steps_once j m at n before s in
      stop (rw e at g)

  stopped_once : (j k : ℕ) (m n o : Moment) → Steps b log j m n → (Goes n → ⊥) → Steps b log k m o → (Goes o → ⊥) → n ≡ o
  stopped_once j k m n o s stop t halt =
      elim (dec_lt j k) [
        | yes l ↦ absurd (no_more j k m n o l s stop t)
        | no l ↦ elim (dec_lt k j) [
          | yes h ↦ absurd (no_more k j m o n h t halt s)
          | no h ↦ steps_once k m n o (same_count j k m n (omega arith) s) t
        ]
      ]

  -- where the program stands, how much of the buffer is used, and every lent byte
  pub fills_once : {from to to' : Moment} → Fills b log from to → Fills b log from to' → to ≡ to'
  fills_once {from} {to} {to'} f g = stopped_once f.count g.count from to to' f.steps f.stops g.steps g.stops

pub printed_once : (b log : List ℕ) (n n' : ℕ) → Printed b log (Ok n) → Printed b log (Ok n') → n ≡ n'
printed_once b log n n' (t, e, h) (t', e', h') =
    let same : t ≡ t' = text_once (b ++ []) (log ++ []) start t t' (h [] [] (inl refl) (inl refl)) (h' [] [] (inl refl) (inl refl)) in
    e ∙ ap length same ∙ sym e'
