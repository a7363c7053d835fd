-- What reading the head record finds.
use Rattle.std.specs.Prelude.{ℕ, List, Option, None, Some}
use Rattle.model.specs.SchemeBytes.{CountsFit}
use Rattle.tables.specs.Read.{CountsOf}
use Rattle.tables.specs.declared.counts.Summary.{Summary}

-- the counts, or nothing where one is outside its range
abbrev pub Counted : List ℕ → Option Summary → Type 0
Counted b (Some c) = CountsOf b c
Counted b None = CountsFit b → ⊥
