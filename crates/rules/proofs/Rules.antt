-- What the bytes of a policy that fits are, by its kind.
use Prim.Native.Nat.{ℕ, zero, suc, ◌+◌, ◌*◌, ◌≤◌, ◌<◌}
use mathlib.Core.Path.{◌≡◌, refl, sym, ap, ◌∙◌}
use mathlib.Core.List.{List}
use mathlib.Core.Logic.{inl, inr}
use native.Mathlib.Nat.{add-zero}
use native.Mathlib.Omega.{arith}
use Rattle.model.specs.Bytes.{byte}
use Rattle.model.specs.Policies.{Policy, within}
use Rattle.model.specs.SchemeBytes.{S, at4, field, policy_of, PolicyFits, scheme_of}
use Rattle.model.proofs.Decoding.{policy_at}
use Rattle.tables.specs.Read.{ReadAs}
use Rattle.rules.specs.Rules.{kind_of, RuleOf, RuleAt}
use Rattle.tables.specs.declared.counts.Summary.{Summary}
use Rattle.rules.specs.declared.Rule.{Rule}

pub record ByKind (p kind k left right : ℕ) : Type 0 where
  pub known : kind ≤ 8
  pub plain : kind ≤ 2 → (0 ≤ k) × (k ≤ 0) × (left ≡ 0) × (right ≡ 0)
  pub counted : 3 ≤ kind → kind ≤ 4 → (1 ≤ k) × (k ≤ 255) × (left ≡ 0) × (right ≡ 0)
  pub clique : kind ≡ 5 → (2 ≤ k) × (k ≤ 5) × (left ≡ 0) × (right ≡ 0)
  pub combined : 7 ≤ kind → (k ≡ 0) × (left < p) × (right < p)

module _ (S p kind k left right : ℕ) where
  pub by_kind : PolicyFits S p kind k left right → ByKind p kind k left right
  by_kind (inl h) = omega arith
  by_kind (inr (inl h)) = omega arith
  by_kind (inr (inr (inl h))) = omega arith
  by_kind (inr (inr (inr (inl h)))) = omega arith
  by_kind (inr (inr (inr (inr h)))) = omega arith

-- the rule of the bytes where policy p stands is policy p
pub rule_at : (b : List ℕ) (c : Summary) (p at : ℕ) (rule : Rule) → ReadAs b c → p < c.policies → at ≡ at4 b + 4 + p * 4
    → RuleOf (byte b at) (byte b (at + 1)) (byte b (at + 2)) (byte b (at + 3)) rule → RuleAt b p rule
rule_at b c p at rule g l e r =
    let fit = g.bytes.policies p (omega (arith, g.counts.policies)) in
    let same : RuleOf (field b p 0) (field b p 1) (field b p 2) (field b p 3) rule = rw (add-zero (at4 b + 4 + p * 4), ← e) r in
    record {
      policy = policy_at b p (omega (arith, g.counts.policies)) fit ∙ same.policy (scheme_of b).policy;
      fits = same.fits (S b) p fit;
    }

-- the first of the four bytes is the kind
kind_of_lem : (lower : ℕ → Policy) (kind k left right : ℕ) → kind ≤ 8 → kind_of (policy_of lower kind k left right) ≡ kind
kind_of_lem lower zero k left right h = refl
kind_of_lem lower (suc zero) k left right h = refl
kind_of_lem lower (suc (suc zero)) k left right h = refl
kind_of_lem lower (suc (suc (suc zero))) k left right h = refl
kind_of_lem lower (suc (suc (suc (suc zero)))) k left right h = refl
kind_of_lem lower (suc (suc (suc (suc (suc zero))))) k left right h = refl
kind_of_lem lower (suc (suc (suc (suc (suc (suc zero)))))) k left right h = refl
kind_of_lem lower (suc (suc (suc (suc (suc (suc (suc zero))))))) k left right h = refl
kind_of_lem lower (suc (suc (suc (suc (suc (suc (suc (suc zero)))))))) k left right h = refl
kind_of_lem lower (suc (suc (suc (suc (suc (suc (suc (suc (suc n))))))))) k left right h = absurd (omega arith)

same_k : (j k : ℕ) → within j ≡ within k → j ≡ k
same_k j k e = cc

-- the k of a policy of kind within is at least 1
pub within_positive : (b : List ℕ) (c : Summary) → ReadAs b c → (p k : ℕ) → p < c.policies → (scheme_of b).policy p ≡ within k → 1 ≤ k
within_positive b c g p k l e =
    let fit = g.bytes.policies p (omega (arith, g.counts.policies)) in
    let by = by_kind (S b) p (field b p 0) (field b p 1) (field b p 2) (field b p 3) fit in
    let decoded = policy_at b p (omega (arith, g.counts.policies)) fit in
    let three : field b p 0 ≡ 3 =
    sym (kind_of_lem (scheme_of b).policy (field b p 0) (field b p 1) (field b p 2) (field b p 3) by.known) ∙ ap kind_of (sym decoded ∙ e) in
    let same : field b p 1 ≡ k = same_k (field b p 1) k (sym (rw three at decoded) ∙ e) in
    omega (arith, by.counted (omega arith) (omega arith))
