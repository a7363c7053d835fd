-- Refusals with one number are one, and so are results with one answer and one count.
use Rattle.std.proofs.Common.{◌≡◌, ℕ, ◌≤◌, arith, [], ◌∷◌, get_or, refl, sym, ap, ◌∙◌}
use Rattle.std.specs.Prelude.{Result, Ok, Err}
use Rattle.refusals.specs.Numbers.{number, answer_of, count_of}
use Rattle.refusals.specs.declared.Refusal.{Refusal}
use Rattle.refusals.specs.declared.Refusal.TheVariants.{Records, Counts, Bytes, Strangers, Network, Member, Resource, Oneself, NotFound, Undefined, NotAdmitted, NotOffered, Output, LogRecord, LogLength}

-- the refusal of a number
abbrev numbered : ℕ → Refusal
numbered k =
    get_or
    (Records
    ∷ Records
    ∷ Counts
    ∷ Bytes
    ∷ Strangers
    ∷ Network
    ∷ Member
    ∷ Resource
    ∷ Oneself
    ∷ NotFound
    ∷ Undefined
    ∷ NotAdmitted
    ∷ NotOffered
    ∷ Output
    ∷ LogRecord
    ∷ LogLength
    ∷ [])
    k
    Records

back : (refusal : Refusal) → numbered (number refusal) ≡ refusal
back Records = refl
back Counts = refl
back Bytes = refl
back Strangers = refl
back Network = refl
back Member = refl
back Resource = refl
back Oneself = refl
back NotFound = refl
back Undefined = refl
back NotAdmitted = refl
back NotOffered = refl
back Output = refl
back LogRecord = refl
back LogLength = refl

pub number_apart : (x y : Refusal) → number x ≡ number y → x ≡ y
number_apart x y e = sym (back x) ∙ ap numbered e ∙ back y

-- no refusal's number is a grant's
pub number_above : (refusal : Refusal) → 1 ≤ number refusal
number_above Records = omega arith
number_above Counts = omega arith
number_above Bytes = omega arith
number_above Strangers = omega arith
number_above Network = omega arith
number_above Member = omega arith
number_above Resource = omega arith
number_above Oneself = omega arith
number_above NotFound = omega arith
number_above Undefined = omega arith
number_above NotAdmitted = omega arith
number_above NotOffered = omega arith
number_above Output = omega arith
number_above LogRecord = omega arith
number_above LogLength = omega arith

-- the number, and what a grant tells, tell a call's results apart
told_apart : {A : Type 0} (x y : Result A Refusal) → answer_of x ≡ answer_of y → ((a b : A) → x ≡ Ok a → y ≡ Ok b → a ≡ b) → x ≡ y
told_apart (Ok a) (Ok b) e f = ap Ok (f a b refl refl)
told_apart (Ok a) (Err r) e f = absurd (omega (arith, number_above r))
told_apart (Err r) (Ok b) e f = absurd (omega (arith, number_above r))
told_apart (Err r) (Err s) e f = ap Err (number_apart r s e)

pub result_apart : (x y : Result ℕ Refusal) → answer_of x ≡ answer_of y → count_of x ≡ count_of y → x ≡ y
result_apart x y e f = told_apart x y e (λ a b p q. sym (ap count_of p) ∙ f ∙ ap count_of q)

-- a grant of nothing has the number alone
pub granted_apart : (x y : Result (Unit {0}) Refusal) → answer_of x ≡ answer_of y → x ≡ y
granted_apart x y e = told_apart x y e (λ a b p q. refl)
