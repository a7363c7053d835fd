-- What the claim about two lists speaks of: which resources are items, which lists are similar, and which answers may differ.
use Prim.Native.Nat.{ℕ, ◌+◌, ◌-◌, ◌<◌}
use mathlib.Core.Path.{◌≡◌, refl, sym, ap, ap₂}
use mathlib.Core.List.{List, [], ◌∷◌}
use mathlib.Core.Logic.{inl, inr, ◌↔◌}
use native.Mathlib.Omega.{arith}
use Rattle.model.specs.Scheme.{Scheme}
use Rattle.model.specs.Finding.{Finds}
use Rattle.model.specs.Network.{Maps, world}
use Rattle.model.specs.Requests.{set_policy, view, Turn}
use Rattle.model.specs.Machine.{after}
use Rattle.model.specs.TwoLists.{Item, Changed, Similar, Viewed, Alike}

-- the items are the resources 2 + A to 2 + A + I - 1
pub item_is : (c : Scheme) (r : ℕ) → Item c r ↔ ((o : ℕ) × (o < c.items) × (r ≡ 2 + c.primitives + o))
item_is c r = ((λ (a, b). (r - (2 + c.primitives), omega arith, omega arith)), (λ (o, a, e). (omega arith, omega arith)))

-- every list is similar to itself
pub similar_refl : (c : Scheme) (u : ℕ) (ts : List Turn) → Similar c u ts ts
similar_refl c u [] = tt
similar_refl c u (t ∷ ts) = (inl refl, similar_refl c u ts)

-- which sets may differ
pub changed_is : (c : Scheme) (u w w' r r' p p' : ℕ) → Changed c u (set_policy w r p) (set_policy w' r' p')
    ↔ ((w ≡ u) × (w' ≡ u) × (r ≡ r') × Item c r × (p ≡ p' → ⊥))
changed_is c u w w' r r' p p' = (
  (λ (t, x, y, i, n, e, e'). let k : r ≡ t = cc in (cc, cc, cc, (omega (arith, i), omega (arith, i)), λ z. n cc)),
  (λ (a, a', f, i, n). (r, p, p', i, n, ap (λ (k : ℕ). set_policy k r p) a, ap₂ (λ (k t : ℕ). set_policy k t p') a' (sym f))),
)

-- which views may be answered differently
pub viewed_is : (c : Scheme) (u : ℕ) (s : Maps) (v w o : ℕ) → Viewed c u s (view v w o)
    ↔ ((w ≡ u) × (v < c.members) × (o < c.items) × Finds (world c s) v u)
viewed_is c u s v w o = (
  (λ (x, y, m, b, e, f). let k : x ≡ v = cc in let l : y ≡ o = cc in (cc, omega arith, omega arith, rw k at f)),
  (λ (a, m, b, f). (v, o, omega arith, omega arith, ap (λ (k : ℕ). view v k o) a, f)),
)

-- the claim's conclusion: the same request, not so viewed, is answered alike; and every list written is the same
pub alike_answer : (c : Scheme) (u : ℕ) (s : Maps) (t t' : Turn) (ts ts' : List Turn) → Alike c u s (t ∷ ts) (t' ∷ ts')
    → t.request ≡ t'.request
    → (Viewed c u s t.request → ⊥)
    → t.answer ≡ t'.answer
alike_answer c u s t t' ts ts' (inl e, w, a) q n = e
alike_answer c u s t t' ts ts' (inr (inl (r, p, p', i, d, e, e')), w, a) q n = absurd (d cc)
alike_answer c u s t t' ts ts' (inr (inr v), w, a) q n = absurd (n v)

abbrev writtens : List Turn → List (List ℕ)
writtens [] = []
writtens (t ∷ ts) = t.written ∷ writtens ts

pub alike_written : (c : Scheme) (u : ℕ) (s : Maps) (ts ts' : List Turn) → Alike c u s ts ts' → writtens ts ≡ writtens ts'
alike_written c u s [] [] a = refl
alike_written c u s [] (t' ∷ ts') a = absurd a
alike_written c u s (t ∷ ts) [] a = absurd a
alike_written c u s (t ∷ ts) (t' ∷ ts') (e, w, a) = ap₂ ◌∷◌ w (alike_written c u (after c s t) ts ts' a)
