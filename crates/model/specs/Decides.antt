-- The answer of a test (docs/reference.md, "Answers").
use Rattle.std.specs.Prelude.{Bool, true, false}

-- the answer says whether P holds
abbrev pub Decides : Bool → Type 0 → Type 0
Decides true P = P
Decides false P = P → ⊥
