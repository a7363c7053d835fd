-- A policy by its four bytes, its operands being policies of the scheme.
use mathlib.Core.Path.{◌≡◌, refl, sym, ap, ◌∙◌}
use mathlib.Core.List.{List, [], ◌∷◌}
use mathlib.Core.Logic.{inl, inr}
use Prim.Native.Nat.{ℕ, zero, suc, ◌+◌, ◌-◌, ◌≤◌, ◌<◌}
use native.Mathlib.Omega.{arith}
use lib.ListN.{length, get_or, length-append, get_or-append}
use lib.Seq.{get_or_at}
use Rattle.model.specs.Policies.{Policy, no_one}
use Rattle.model.specs.SchemeBytes.{S, P, field, policies, policy_of, scheme_of, PolicyFits}

module _ (b : List ℕ) where
  -- policy q among those below p
  abbrev at : ℕ → ℕ → Policy
  at p q = get_or (policies b p) q no_one

  -- policy p by its bytes
  abbrev decoded : ℕ → (ℕ → Policy) → Policy
  decoded p lower = policy_of lower (field b p 0) (field b p 1) (field b p 2) (field b p 3)

  length_policies : (p : ℕ) → length (policies b p) ≡ p
  unfolding policies
  length_policies zero = refl
  length_policies (suc p) = simp length-append (omega (arith, length_policies p))

  at_last : (p : ℕ) → at (suc p) p ≡ decoded p (at p)
  unfolding policies
  at_last p = get_or_at (policies b p) (decoded p (at p)) [] no_one p (length_policies p)

  at_earlier : (p q : ℕ) → q < p → at (suc p) q ≡ at p q
  unfolding policies
  at_earlier p q l = get_or-append (policies b p) (decoded p (at p) ∷ []) no_one q (omega (arith, length_policies p))

  -- a policy is the same among more
  at_more : (p k q : ℕ) → q < p → at (p + k) q ≡ at p q
  at_more p zero q l = let e : p + 0 ≡ p = omega arith in ap (λ (x : ℕ). at x q) e
  at_more p (suc k) q l =
      let e : p + suc k ≡ suc (p + k) = omega arith in
      ap (λ (x : ℕ). at x q) e ∙ at_earlier (p + k) q (omega arith) ∙ at_more p k q l

  at_all : (p q : ℕ) → q < p → p ≤ P b → at (P b) q ≡ at p q
  at_all p q l h = let e : p + (P b - p) ≡ P b = omega arith in ap (λ (x : ℕ). at x q) (sym e) ∙ at_more p (P b - p) q l

-- kinds 0 to 6 have no operands
leaf : (f g : ℕ → Policy) (kind k left right : ℕ) → kind ≤ 6 → policy_of f kind k left right ≡ policy_of g kind k left right
leaf f g zero k left right h = refl
leaf f g (suc zero) k left right h = refl
leaf f g (suc (suc zero)) k left right h = refl
leaf f g (suc (suc (suc zero))) k left right h = refl
leaf f g (suc (suc (suc (suc zero)))) k left right h = refl
leaf f g (suc (suc (suc (suc (suc zero))))) k left right h = refl
leaf f g (suc (suc (suc (suc (suc (suc zero)))))) k left right h = refl
leaf f g (suc (suc (suc (suc (suc (suc (suc kind))))))) k left right h = absurd (omega arith)

operands : (f g : ℕ → Policy) (kind k left right : ℕ) → f left ≡ g left → f right ≡ g right → policy_of f kind k left right ≡ policy_of g kind k left right
operands f g kind k left right d e = rw (d, e)

pub policy_at : (b : List ℕ) (p : ℕ)
    → p < P b
    → PolicyFits (S b) p (field b p 0) (field b p 1) (field b p 2) (field b p 3)
    → (scheme_of b).policy p ≡ policy_of (scheme_of b).policy (field b p 0) (field b p 1) (field b p 2) (field b p 3)
policy_at b p l fit = at_all b (suc p) p (omega arith) l ∙ at_last b p ∙ go fit
  where
    go : PolicyFits (S b) p (field b p 0) (field b p 1) (field b p 2) (field b p 3)
        → policy_of (at b p) (field b p 0) (field b p 1) (field b p 2) (field b p 3)
        ≡ policy_of (at b (P b)) (field b p 0) (field b p 1) (field b p 2) (field b p 3)
    go (inl h) = leaf (at b p) (at b (P b)) (field b p 0) (field b p 1) (field b p 2) (field b p 3) (omega (arith, h.0))
    go (inr (inl h)) = leaf (at b p) (at b (P b)) (field b p 0) (field b p 1) (field b p 2) (field b p 3) (omega (arith, h.1))
    go (inr (inr (inl h))) = leaf (at b p) (at b (P b)) (field b p 0) (field b p 1) (field b p 2) (field b p 3) (omega (arith, h.0))
    go (inr (inr (inr (inl h)))) = leaf (at b p) (at b (P b)) (field b p 0) (field b p 1) (field b p 2) (field b p 3) (omega (arith, h.0))
    go (inr (inr (inr (inr h)))) =
        operands (at b p) (at b (P b)) (field b p 0) (field b p 1) (field b p 2) (field b p 3)
        (sym (at_all b p (field b p 2) h.3 (omega arith)))
        (sym (at_all b p (field b p 3) h.4 (omega arith)))
