-- Whatever a call may answer is the number of a grant or of a refusal.
use Rattle.std.proofs.Common.{ℕ, zero, suc, ◌<◌, ◌≡◌, refl, sym, List, [], ◌∷◌, Result, Ok, Err, inl, inr, arith}
use Rattle.model.specs.Answers.{Requirement, Answers}
use Rattle.model.specs.Requests.{Request, event, set_policy, find, list, view}
use Rattle.model.specs.Calls.{call_needs}
use Rattle.refusals.specs.Numbers.{answer_of, count_of}
use Rattle.refusals.specs.declared.Refusal.{Refusal}
use Rattle.refusals.specs.declared.Refusal.TheVariants.{Records, Counts, Bytes, Strangers, Network, Member, Resource, Oneself, NotFound, Undefined, NotAdmitted, NotOffered, Output, LogRecord, LogLength}

-- every number is below 16
abbrev Small : List Requirement → Type 0
Small [] = Unit {0}
Small ((k, Met) ∷ l) = (k < 16) × Small l

answer_small : (l : List Requirement) (a : ℕ) → Small l → Answers l a → a < 16
answer_small [] a s e = omega arith
answer_small ((k, Met) ∷ l) a (b, s) (inl (n, e)) = omega arith
answer_small ((k, Met) ∷ l) a (b, s) (inr (m, h)) = answer_small l a s h

small : (b net : List ℕ) (q : Request) → Small (call_needs b net q)
small b net (event v u a) = (omega arith, (omega arith, (omega arith, (omega arith, (omega arith, (omega arith, (omega arith, (omega arith, (omega arith, (omega arith, (omega arith, (omega arith, tt))))))))))))
small b net (set_policy u r p) = (omega arith, (omega arith, (omega arith, (omega arith, (omega arith, (omega arith, (omega arith, (omega arith, (omega arith, tt)))))))))
small b net (find v u) = (omega arith, (omega arith, (omega arith, (omega arith, (omega arith, (omega arith, (omega arith, (omega arith, tt))))))))
small b net (list v u places) = (omega arith, (omega arith, (omega arith, (omega arith, (omega arith, (omega arith, (omega arith, (omega arith, (omega arith, (omega arith, tt))))))))))
small b net (view v u o) = (omega arith, (omega arith, (omega arith, (omega arith, (omega arith, (omega arith, (omega arith, (omega arith, (omega arith, (omega arith, tt))))))))))

-- a result with this number and this count
abbrev pub Telling : ℕ → ℕ → Type 0
Telling answer count = (told : Result ℕ Refusal) × (answer_of told ≡ answer) × (count_of told ≡ count)

told_of : (answer count : ℕ) → answer < 16 → ((answer ≡ 0 → ⊥) → count ≡ 0) → Telling answer count
told_of zero count b n = (Ok count, refl, refl)
told_of (suc zero) count b n = (Err Records, refl, sym (n (λ e. omega arith)))
told_of (suc (suc zero)) count b n = (Err Counts, refl, sym (n (λ e. omega arith)))
told_of (suc (suc (suc zero))) count b n = (Err Bytes, refl, sym (n (λ e. omega arith)))
told_of (suc (suc (suc (suc zero)))) count b n = (Err Strangers, refl, sym (n (λ e. omega arith)))
told_of (suc (suc (suc (suc (suc zero))))) count b n = (Err Network, refl, sym (n (λ e. omega arith)))
told_of (suc (suc (suc (suc (suc (suc zero)))))) count b n = (Err Member, refl, sym (n (λ e. omega arith)))
told_of (suc (suc (suc (suc (suc (suc (suc zero))))))) count b n = (Err Resource, refl, sym (n (λ e. omega arith)))
told_of (suc (suc (suc (suc (suc (suc (suc (suc zero)))))))) count b n = (Err Oneself, refl, sym (n (λ e. omega arith)))
told_of (suc (suc (suc (suc (suc (suc (suc (suc (suc zero))))))))) count b n = (Err NotFound, refl, sym (n (λ e. omega arith)))
told_of (suc (suc (suc (suc (suc (suc (suc (suc (suc (suc zero)))))))))) count b n = (Err Undefined, refl, sym (n (λ e. omega arith)))
told_of (suc (suc (suc (suc (suc (suc (suc (suc (suc (suc (suc zero))))))))))) count b n = (Err NotAdmitted, refl, sym (n (λ e. omega arith)))
told_of (suc (suc (suc (suc (suc (suc (suc (suc (suc (suc (suc (suc zero)))))))))))) count b n = (Err NotOffered, refl, sym (n (λ e. omega arith)))
told_of (suc (suc (suc (suc (suc (suc (suc (suc (suc (suc (suc (suc (suc zero))))))))))))) count b n = (Err Output, refl, sym (n (λ e. omega arith)))
told_of (suc (suc (suc (suc (suc (suc (suc (suc (suc (suc (suc (suc (suc (suc zero)))))))))))))) count b n = (Err LogRecord, refl, sym (n (λ e. omega arith)))
told_of (suc (suc (suc (suc (suc (suc (suc (suc (suc (suc (suc (suc (suc (suc (suc zero))))))))))))))) count b n = (Err LogLength, refl, sym (n (λ e. omega arith)))
told_of (suc (suc (suc (suc (suc (suc (suc (suc (suc (suc (suc (suc (suc (suc (suc (suc k)))))))))))))))) count b n = absurd (omega arith)

-- what a call answers and counts, as its result
pub telling : (b net : List ℕ) (q : Request) (answer count : ℕ) → Answers (call_needs b net q) answer → ((answer ≡ 0 → ⊥) → count ≡ 0) → Telling answer count
telling b net q answer count h n = told_of answer count (answer_small (call_needs b net q) answer (small b net q) h) n
