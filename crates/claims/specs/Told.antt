-- What a caller learns from a contract's plain `ensures`, read in the closed model of the logic.
use borrow.Fn.World.{Pr, w₀}
use borrow.Fn.Read.{ReadAt, no_know}
use borrow.Fn.Claims.{AllOf}
use base.Logic.{emp}

-- what an assertion tells whoever has it
abbrev pub Told : (P : Pr w₀) → ReadAt w₀ (λ w. emp w.𝓤) no_know P → Type 0
Told P reading = AllOf reading.tells
