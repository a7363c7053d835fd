-- The session's sixteen lines as bytes, and the texts of small files (docs/reference.md, "The session").
use Rattle.std.specs.Prelude.{ℕ, ◌+◌, ◌≡◌, List, [], ◌∷◌, ◌++◌}
use Rattle.model.specs.Requests.{Turn}
use Rattle.model.specs.Text.{line_of, Text}
use Rattle.model.specs.Standard.{standard_bytes}
use Rattle.model.specs.Session.{session}

-- the lines of turns, from a position on
abbrev pub lines_of : ℕ → List Turn → List ℕ
lines_of position [] = []
lines_of position (t ∷ ts) = line_of position t.answer t.written ++ lines_of (position + 1) ts

-- `1 9`, `2 0`, .. `13 0 0`, .. `16 9`
abbrev pub SessionPrinted : Type 0
SessionPrinted =
    lines_of 1 session ≡
    49 ∷ 32 ∷ 57 ∷ 10
    ∷ 50 ∷ 32 ∷ 48 ∷ 10
    ∷ 51 ∷ 32 ∷ 49 ∷ 49 ∷ 10
    ∷ 52 ∷ 32 ∷ 48 ∷ 10
    ∷ 53 ∷ 32 ∷ 48 ∷ 10
    ∷ 54 ∷ 32 ∷ 49 ∷ 48 ∷ 10
    ∷ 55 ∷ 32 ∷ 48 ∷ 10
    ∷ 56 ∷ 32 ∷ 49 ∷ 49 ∷ 10
    ∷ 57 ∷ 32 ∷ 48 ∷ 10
    ∷ 49 ∷ 48 ∷ 32 ∷ 48 ∷ 10
    ∷ 49 ∷ 49 ∷ 32 ∷ 57 ∷ 10
    ∷ 49 ∷ 50 ∷ 32 ∷ 48 ∷ 10
    ∷ 49 ∷ 51 ∷ 32 ∷ 48 ∷ 32 ∷ 48 ∷ 10
    ∷ 49 ∷ 52 ∷ 32 ∷ 49 ∷ 49 ∷ 10
    ∷ 49 ∷ 53 ∷ 32 ∷ 48 ∷ 10
    ∷ 49 ∷ 54 ∷ 32 ∷ 57 ∷ 10
    ∷ []

-- `0 1` where there is no scheme, whatever the log
abbrev pub NoScheme : Type 0
NoScheme = (log : List ℕ) → Text [] log (48 ∷ 32 ∷ 49 ∷ 10 ∷ [])

-- `find 3 3` and a cut record under the standard scheme: `1 0` and `2 14`
abbrev pub FindThenCut : Type 0
FindThenCut = Text (standard_bytes 4) (4 ∷ 0 ∷ 18 ∷ 0 ∷ 3 ∷ 0 ∷ 3 ∷ 0 ∷ 4 ∷ []) (49 ∷ 32 ∷ 48 ∷ 10 ∷ 50 ∷ 32 ∷ 49 ∷ 52 ∷ 10 ∷ [])
