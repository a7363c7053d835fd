-- What is known of a scheme that was read has at most one proof, so a struct can hold it.
use Rattle.std.specs.Prelude.{ℕ, ◌≤◌, List, [], ◌∷◌, ◌⊎◌}
use Rattle.std.proofs.Common.{arith, ap, inl, inr}
use Rattle.std.proofs.Props.{props}
use Rattle.std.specs.Coded.{le_prop}
use Rattle.model.specs.Bytes.{RecordAt}
use Rattle.model.specs.SchemeBytes.{MoveFits, PolicyFits, MaskFits, Records, BytesFit, S, n, scheme_needs, Accepted}
use Rattle.model.specs.Answers.{Requirement, Answers}
use Rattle.model.proofs.Answering.{Numbered}
use Rattle.tables.specs.Read.{CountsOf, InRange, ReadAs}
use Rattle.tables.specs.declared.counts.Summary.{Summary}

-- one of two facts that exclude each other
apart : {A B : Type 0} → IsProp A → IsProp B → (A → B → ⊥) → IsProp (A ⊎ B)
apart a b d (inl x) (inl y) = ap inl (a x y)
apart a b d (inl x) (inr y) = absurd (d x y)
apart a b d (inr x) (inl y) = absurd (d y x)
apart a b d (inr x) (inr y) = ap inr (b x y)

move_once : (states q : ℕ) → states ≤ 16 → IsProp (MoveFits states q)
move_once states q l = apart (Prim.hlevel props) (Prim.hlevel props) (λ e d. omega (arith, e, d, l))

policy_once : (states p kind k left right : ℕ) → IsProp (PolicyFits states p kind k left right)
policy_once states p kind k left right =
    apart (Prim.hlevel props)
    (apart (Prim.hlevel props)
    (apart (Prim.hlevel props)
    (apart (Prim.hlevel props) (Prim.hlevel props) (λ x y. omega (arith, x.0, y.0)))
    (λ x y. elim y [ inl z ↦ omega (arith, x.0, z.0) | inr z ↦ omega (arith, x.0, z.0) ]))
    (λ x y. elim y [ inl z ↦ omega (arith, x.1, z.0) | inr (inl z) ↦ omega (arith, x.1, z.0) | inr (inr z) ↦ omega (arith, x.1, z.0) ]))
    (λ x y. elim y [ inl z ↦ omega (arith, x.0, z.0) | inr (inl z) ↦ omega (arith, x.0, z.0) | inr (inr (inl z)) ↦ omega (arith, x.0, z.0) | inr (inr (inr z)) ↦ omega (arith, x.0, z.0) ])

mask_once : (many x : ℕ) → IsProp (MaskFits many x)
mask_once many x = Prim.hlevel props

bytes_once : (b : List ℕ) → S b ≤ 16 → IsProp (BytesFit b)
bytes_once b l x y = λ i. record {
  moves = λ k h. move_once (S b) _ l (x.moves k h) (y.moves k h) i;
  friends = λ q h. le_prop (x.friends q h) (y.friends q h) i;
  policies = λ p h. policy_once (S b) p _ _ _ _ (x.policies p h) (y.policies p h) i;
  masks = λ r h. mask_once _ _ (x.masks r h) (y.masks r h) i;
  groups = λ m h. le_prop (x.groups m h) (y.groups m h) i;
}

pub counts_once : (b : List ℕ) (c : Summary) → IsProp (CountsOf b c)
counts_once b c = Prim.hlevel props

range_once : (c : Summary) → IsProp (InRange c)
range_once c = Prim.hlevel props

record_once : (b : List ℕ) (k kind size : ℕ) → IsProp (RecordAt b k kind size)
record_once b k kind size = Prim.hlevel props

records_once : (b : List ℕ) → IsProp (Records b)
records_once b x y = λ i. record {
  moves = record_once b _ _ _ x.moves y.moves i;
  friends = record_once b _ _ _ x.friends y.friends i;
  policies = record_once b _ _ _ x.policies y.policies i;
  masks = record_once b _ _ _ x.masks y.masks i;
  groups = apart (Prim.hlevel props) (Prim.hlevel props) (λ e h. omega (arith, e, h.1)) x.groups y.groups i;
}

pub read_once : (b : List ℕ) (c : Summary) → IsProp (ReadAs b c)
read_once b c x y = λ i. record {
  counts = counts_once b c x.counts y.counts i;
  range = range_once c x.range y.range i;
  records = records_once b x.records y.records i;
  bytes = bytes_once b (omega (arith, x.range, x.counts.states)) x.bytes y.bytes i;
}

-- where a requirement is met, those after it have at most one proof
abbrev pub OnceEach : List Requirement → Type 0
OnceEach [] = Unit {0}
OnceEach ((k, Met) ∷ l) = IsProp Met × (Met → OnceEach l)

granted_once : (l : List Requirement) → Numbered l → OnceEach l → IsProp (Answers l 0)
granted_once [] n o x y = Prim.hlevel props
granted_once ((k, Met) ∷ l) (b, n) o (inl (m, e)) y = absurd (omega arith)
granted_once ((k, Met) ∷ l) (b, n) o (inr x) (inl (m, e)) = absurd (omega arith)
granted_once ((k, Met) ∷ l) (b, n) (o, os) (inr (m, x)) (inr (m', y)) = λ i. inr (o m m' i, granted_once l n (os m) x y i)

pub accepted_once : (b : List ℕ) → IsProp (Accepted b)
accepted_once b =
    granted_once
    (scheme_needs b)
    (omega arith)
    (Prim.hlevel props, λ _. (Prim.hlevel props, λ c. (records_once b, λ _. (bytes_once b c.states.1, λ _. (Prim.hlevel props, λ _. tt)))))
