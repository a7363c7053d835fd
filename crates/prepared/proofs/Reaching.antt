-- What the policies of a scheme read.
use Prim.Native.Nat.{ℕ, ◌+◌, ◌≤◌, zero-le}
use mathlib.Core.Path.{◌≡◌, sym, ◌∙◌}
use mathlib.Core.List.{List}
use mathlib.Core.Logic.{inl, inr, ⊎_elim}
use native.Mathlib.Omega.{arith}
use native.Mathlib.Decide.{ℕ_discrete, dec_le}
use Rattle.std.specs.Prelude.{max}
use Rattle.model.specs.Policies.{Policy, within}
use Rattle.model.specs.SchemeBytes.{scheme_of}
use Rattle.rules.specs.declared.Rule.{Rule}
use Rattle.rules.specs.declared.Rule.TheVariants.{NoOne, Everyone, Owner, Within, Known, Clique, State, Both, Either}
use Rattle.rules.specs.Rules.{policy_of_rule, RuleAt}
use Rattle.prepared.specs.Reading.{Farthest, SomeOfKind}

-- the rule of a policy of kind within
is_within : (lower : ℕ → Policy) (rule : Rule) {j : ℕ} → policy_of_rule lower rule ≡ within j → rule ≡ Within j
is_within lower NoOne e = cc
is_within lower Everyone e = cc
is_within lower Owner e = cc
is_within lower (Within k) e = cc
is_within lower (Known k) e = cc
is_within lower (Clique k) e = cc
is_within lower (State set side) e = cc
is_within lower (Both left right) e = cc
is_within lower (Either left right) e = cc

module _ {b : List ℕ} {p most : ℕ} (far : Farthest b p most) where
  -- policy p is of kind within
  pub farthest_within : {k next : ℕ} → RuleAt b p (Within k) → next ≤ 255 → next ≡ max most k → Farthest b (p + 1) next
  farthest_within {k} {next} at small m = record {
    small = small;
    most = λ q j l e.
        elim (ℕ_discrete q p) [
          | yes d ↦
              let f : (scheme_of b).policy p ≡ within j = rw d at e in
              let h : j ≡ k = cc (at.policy) in
              (omega (arith, at.fits), omega arith)
          | no d ↦ let (x, y) = far.most q j (omega arith) e in (x, omega arith)
        ];
    one =
        elim (dec_le k most) [
          | yes l ↦ ⊎_elim (λ z. inl (omega arith)) (λ (q, h, e). let s : next ≡ most = omega arith in inr (q, omega arith, rw s e)) far.one
          | no l ↦ let s : next ≡ k = omega arith in inr (p, omega arith, rw s at.policy)
        ];
  }

  -- policy p is of another kind
  pub farthest_other : {rule : Rule} → RuleAt b p rule → ((k : ℕ) → rule ≡ Within k → ⊥) → Farthest b (p + 1) most
  farthest_other {rule} at n = record {
    small = far.small;
    most = λ q j l e.
        elim (ℕ_discrete q p) [
          | yes d ↦ absurd (n j (is_within _ rule (sym at.policy ∙ (rw d at e))))
          | no d ↦ far.most q j (omega arith) e
        ];
    one = ⊎_elim (λ z. inl z) (λ (q, h, e). inr (q, omega arith, e)) far.one;
  }

-- some of the first policies are among more of them
pub some_more : (kind : ℕ) (b : List ℕ) (from few many : ℕ) → few ≤ many → SomeOfKind kind b from few → SomeOfKind kind b 0 many
some_more kind b from few many l (p, f, h, e) = (p, zero-le, omega arith, e)
