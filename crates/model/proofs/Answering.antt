-- Laws of requirement lists.
use Prim.Native.Nat.{ℕ, ◌<◌}
use mathlib.Core.Path.{◌≡◌, refl, sym, ◌∙◌}
use mathlib.Core.List.{List, [], ◌∷◌, ◌++◌}
use mathlib.Core.Logic.{inl, inr}
use native.Mathlib.Omega.{arith}
use Rattle.model.specs.Answers.{Requirement, Answers}

pub answers_unique : (l : List Requirement) (a b : ℕ) → Answers l a → Answers l b → a ≡ b
answers_unique [] a b p q = p ∙ sym q
answers_unique ((k, M) ∷ l) a b (inl p) (inl q) = p.1 ∙ sym q.1
answers_unique ((k, M) ∷ l) a b (inl p) (inr q) = absurd (p.0 q.0)
answers_unique ((k, M) ∷ l) a b (inr p) (inl q) = absurd (q.0 p.0)
answers_unique ((k, M) ∷ l) a b (inr p) (inr q) = answers_unique l a b p.1 q.1

-- the same numbers with conditions that say the same, each where those before it are met
abbrev pub Same : List Requirement → List Requirement → Type 0
Same [] [] = Unit {0}
Same [] (y ∷ l') = ⊥
Same (x ∷ l) [] = ⊥
Same ((k, M) ∷ l) ((k', M') ∷ l') = (k ≡ k') × (M → M') × (M' → M) × (M → Same l l')

pub answers_same : (l l' : List Requirement) (a b : ℕ) → Same l l' → Answers l a → Answers l' b → a ≡ b
answers_same [] [] a b s p q = p ∙ sym q
answers_same [] (y ∷ l') a b s p q = absurd s
answers_same (x ∷ l) [] a b s p q = absurd s
answers_same ((k, M) ∷ l) ((k', M') ∷ l') a b (e, to, from, s) (inl p) (inl q) = p.1 ∙ e ∙ sym q.1
answers_same ((k, M) ∷ l) ((k', M') ∷ l') a b (e, to, from, s) (inl p) (inr q) = absurd (p.0 (from q.0))
answers_same ((k, M) ∷ l) ((k', M') ∷ l') a b (e, to, from, s) (inr p) (inl q) = absurd (q.0 (to p.0))
answers_same ((k, M) ∷ l) ((k', M') ∷ l') a b (e, to, from, s) (inr p) (inr q) = answers_same l l' a b (s p.0) p.1 q.1

-- every refusal's number is above 0
abbrev pub Numbered : List Requirement → Type 0
Numbered [] = Unit {0}
Numbered ((k, M) ∷ l) = (0 < k) × Numbered l

abbrev pub AllMet : List Requirement → Type 0
AllMet [] = Unit {0}
AllMet ((k, M) ∷ l) = M × AllMet l

-- a grant hands over every requirement, and nothing but them is needed
pub granted_met : (l : List Requirement) → Numbered l → Answers l 0 → AllMet l
granted_met [] n p = tt
granted_met ((k, M) ∷ l) (b, n) (inl (m, e)) = absurd (omega arith)
granted_met ((k, M) ∷ l) (b, n) (inr (m, p)) = (m, granted_met l n p)

pub met_granted : (l : List Requirement) → AllMet l → Answers l 0
met_granted [] m = refl
met_granted ((k, M) ∷ l) (m, h) = inr (m, met_granted l h)

-- past requirements that are met
pub past : (l m : List Requirement) (a : ℕ) → AllMet l → Answers (l ++ m) a → Answers m a
past [] m a h p = p
past ((k, M) ∷ l) m a (h, hs) (inl (n, e)) = absurd (n h)
past ((k, M) ∷ l) m a (h, hs) (inr (x, p)) = past l m a hs p

pub behind : (l m : List Requirement) (a : ℕ) → AllMet l → Answers m a → Answers (l ++ m) a
behind [] m a h p = p
behind ((k, M) ∷ l) m a (h, hs) p = inr (h, behind l m a hs p)

-- a refusal of the first requirements
pub ahead : (l m : List Requirement) (a : ℕ) → 0 < a → Answers l a → Answers (l ++ m) a
ahead [] m a h p = absurd (omega arith)
ahead ((k, M) ∷ l) m a h (inl p) = inl p
ahead ((k, M) ∷ l) m a h (inr (x, p)) = inr (x, ahead l m a h p)

-- where each requirement is met or not met, there is an answer
abbrev pub Decided : List Requirement → Type 0
Decided [] = Unit {0}
Decided ((k, M) ∷ l) = Dec M × Decided l

pub answers_exist : (l : List Requirement) → Decided l → (a : ℕ) × Answers l a
answers_exist [] d = (0, refl)
answers_exist ((k, M) ∷ l) (no n, d) = (k, inl (n, refl))
answers_exist ((k, M) ∷ l) (yes m, d) = let (a, p) = answers_exist l d in (a, inr (m, p))
