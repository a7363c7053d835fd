-- The numbers that calls answer (docs/reference.md, "Answers").
use Rattle.std.specs.Prelude.{ℕ, Result, Ok, Err}
use Rattle.refusals.specs.declared.Refusal.{Refusal}
use Rattle.refusals.specs.declared.Refusal.TheVariants.{Records, Counts, Bytes, Strangers, Network, Member, Resource, Oneself, NotFound, Undefined, NotAdmitted, NotOffered, Output, LogRecord, LogLength}

abbrev pub number : Refusal → ℕ
number Records = 1
number Counts = 2
number Bytes = 3
number Strangers = 4
number Network = 5
number Member = 6
number Resource = 7
number Oneself = 8
number NotFound = 9
number Undefined = 10
number NotAdmitted = 11
number NotOffered = 12
number Output = 13
number LogRecord = 14
number LogLength = 15

-- 0 for a grant, else the refusal's number
abbrev pub answer_of : {A : Type 0} → Result A Refusal → ℕ
answer_of (Ok x) = 0
answer_of (Err refusal) = number refusal

-- how many a call wrote: none where it was refused
abbrev pub count_of : Result ℕ Refusal → ℕ
count_of (Ok count) = count
count_of (Err refusal) = 0
