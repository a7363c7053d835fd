-- A scheme file longer than every accepted one is refused by its first bytes.
use Prim.Native.Nat.{ℕ, zero, suc, ◌*◌, ◌<◌, ◌≤◌}
use mathlib.Core.Path.{◌≡◌, refl}
use mathlib.Core.List.{List, [], ◌∷◌, ◌++◌}
use mathlib.Core.Logic.{inl, inr}
use native.Mathlib.Omega.{arith}
use native.Mathlib.Nat.{mul-le-mul}
use lib.ListN.{length, get_or, length-append}
use Rattle.model.specs.Answers.{Answers}
use Rattle.model.specs.Bytes.{RecordAt}
use Rattle.model.specs.SchemeBytes.{CountsFit, Sixth, Records, scheme_needs, Accepted, n, at6, longest_scheme}

front : (b rest : List ℕ) (k : ℕ) → k < length b → get_or (b ++ rest) k 0 ≡ get_or b k 0
front [] rest k h = absurd (omega arith)
front (x ∷ b) rest zero h = refl
front (x ∷ b) rest (suc k) h = front b rest k (omega arith)

five_small : (b : List ℕ) → CountsFit b → at6 b ≤ 530
five_small b c =
    let (s, t) = c.states in
    let (p, q) = c.primitives in
    let w : get_or b 6 0 * 2 ≤ 32 = omega arith in
    let m : get_or b 6 0 * 2 * get_or b 7 0 ≤ 32 * 8 = mul-le-mul w q in
    omega (arith, m, t, q, c.items.1, c.policies.1)

-- and a sixth record has at most 260
all_small : (b : List ℕ) → CountsFit b → Records b → length b ≤ longest_scheme
all_small b c r = go r.groups
  where
    go : Sixth b → length b ≤ longest_scheme
    go (inl e) = omega (arith, e, five_small b c)
    go (inr s) = omega (arith, s, five_small b c, c.members.1)

pub fits : (b : List ℕ) → Accepted b → length b ≤ longest_scheme
fits b (inl (n, e)) = absurd (omega arith)
fits b (inr (h, inl (n, e))) = absurd (omega arith)
fits b (inr (h, inr (c, inl (n, e)))) = absurd (omega arith)
fits b (inr (h, inr (c, inr (r, p)))) = all_small b c r

module _ (b rest : List ℕ) (long : longest_scheme < length b) where
  head : RecordAt (b ++ rest) 0 1 6 → RecordAt b 0 1 6
  head (l, s, k) = (omega arith, rw (front b rest 0 (omega arith), front b rest 1 (omega arith)) at s, rw (front b rest 2 (omega arith), front b rest 3 (omega arith)) at k)

  head_too : RecordAt b 0 1 6 → RecordAt (b ++ rest) 0 1 6
  head_too (l, s, k) = (omega (arith, length-append b rest), rw (front b rest 0 (omega arith), front b rest 1 (omega arith)) s, rw (front b rest 2 (omega arith), front b rest 3 (omega arith)) k)

  counts : CountsFit (b ++ rest) → CountsFit b
  counts c = record {
    members = rw (front b rest 4 (omega arith), front b rest 5 (omega arith)) at c.members;
    states = rw (front b rest 6 (omega arith)) at c.states;
    primitives = rw (front b rest 7 (omega arith)) at c.primitives;
    items = rw (front b rest 8 (omega arith)) at c.items;
    policies = rw (front b rest 9 (omega arith)) at c.policies;
  }

  counts_too : CountsFit b → CountsFit (b ++ rest)
  counts_too c = record {
    members = rw (front b rest 4 (omega arith), front b rest 5 (omega arith)) c.members;
    states = rw (front b rest 6 (omega arith)) c.states;
    primitives = rw (front b rest 7 (omega arith)) c.primitives;
    items = rw (front b rest 8 (omega arith)) c.items;
    policies = rw (front b rest 9 (omega arith)) c.policies;
  }

  -- the check of the first bytes answers for all
  pub overlong : (k : ℕ) → Answers (scheme_needs b) k → Answers (scheme_needs (b ++ rest)) k
  overlong k (inl (n, e)) = inl ((λ h. n (head h)), e)
  overlong k (inr (h, inl (n, e))) = inr (head_too h, inl ((λ c. n (counts c)), e))
  overlong k (inr (h, inr (c, inl (n, e)))) =
      inr (
        head_too h,
        inr (
          counts_too c,
          inl (
            (λ r. omega (arith, all_small (b ++ rest) (counts_too c) r, length-append b rest)),
            e,
          ),
        ),
      )
  overlong k (inr (h, inr (c, inr (r, p)))) = absurd (omega (arith, all_small b c r))
