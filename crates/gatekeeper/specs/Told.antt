-- What a lent place holds after a call.
use Rattle.std.specs.Prelude.{ℕ, Option, Result, Ok, Err}
use Rattle.model.specs.Calls.{degree_number}
use Rattle.degree.specs.Told.{degree_named}
use Rattle.refusals.specs.declared.Refusal.{Refusal}

-- what a grant tells; what it held, where the call was refused
abbrev pub told_or : {T : Type 0} → Result T Refusal → T → T
told_or (Ok x) held = x
told_or (Err refusal) held = held

-- a degree as a number
abbrev pub degree_told : Result (Option ℕ) Refusal → Result ℕ Refusal
degree_told (Ok told) = Ok (degree_number (degree_named told))
degree_told (Err refusal) = Err refusal
