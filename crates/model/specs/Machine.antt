-- The plain machine (docs/reference.md, "The plain machine").
use Rattle.std.specs.Prelude.{◌≡◌, List, [], ◌∷◌}
use Rattle.model.specs.Answers.{Answers}
use Rattle.model.specs.Scheme.{Scheme}
use Rattle.model.specs.Network.{Maps}
use Rattle.model.specs.Requests.{Request, needs, writes, does, Turn, granted}

-- the machine, on its own maps, gives this request this answer and writes this list: both follow from maps and request alone
pub record Judged (c : Scheme) (s : Maps) (t : Turn) : Type 0 where
  pub answered : Answers (needs c s t.request) t.answer
  pub wrote : t.written ≡ granted t.answer (writes c s t.request) []

-- the maps after its answer
abbrev pub after : Scheme → Maps → Turn → Maps
after c s t = granted t.answer (does c s t.request) s

-- each turn is the machine's, on the maps that the one before it left
abbrev pub Runs : Scheme → Maps → List Turn → Type 0
Runs c s [] = Unit {0}
Runs c s (t ∷ ts) = Judged c s t × Runs c (after c s t) ts

-- the maps after the turns
abbrev pub after_all : Scheme → Maps → List Turn → Maps
after_all c s [] = s
after_all c s (t ∷ ts) = after_all c (after c s t) ts

abbrev pub requests : List Turn → List Request
requests [] = []
requests (t ∷ ts) = t.request ∷ requests ts
