-- Lists of calls, each on the network that the one before it left (docs/reference.md, "The plain machine").
use Rattle.std.specs.Prelude.{ℕ, List, [], ◌∷◌}
use Rattle.model.specs.Scheme.{Scheme}
use Rattle.model.specs.Network.{Maps, Laid}
use Rattle.model.specs.Requests.{Turn, granted}
use Rattle.model.specs.Calls.{puts}
use Rattle.model.specs.Machine.{Judged, after}

-- a trace: turns, with the bytes after each
abbrev pub Trace : Type 0
Trace = List (Turn × List ℕ)

abbrev pub turns : Trace → List Turn
turns [] = []
turns ((t, net) ∷ ts) = t ∷ turns ts

abbrev pub last_bytes : List ℕ → Trace → List ℕ
last_bytes net [] = net
last_bytes net ((t, after) ∷ ts) = last_bytes after ts

-- the turns are the machine's, and after each the bytes are its maps laid out
abbrev pub Matches : Scheme → Maps → Trace → Type 0
Matches c s [] = Unit {0}
Matches c s ((t, net) ∷ ts) = Judged c s t × Laid c (after c s t) net × Matches c (after c s t) ts

-- what a call on scheme and network may answer and leave
abbrev pub Call : Type 1
Call = List ℕ → List ℕ → Turn → List ℕ → Type 0

-- each turn is a call on the network that the one before it left
abbrev pub Happens : Call → List ℕ → List ℕ → Trace → Type 0
Happens Calls b net [] = Unit {0}
Happens Calls b net ((t, after) ∷ ts) = Calls b net t after × Happens Calls b after ts

-- turns with the bytes that each leaves
abbrev pub trace_of : Scheme → List ℕ → List Turn → Trace
trace_of c net [] = []
trace_of c net (t ∷ ts) =
    (t, granted t.answer (puts c net t.request) net) ∷ trace_of c (granted t.answer (puts c net t.request) net) ts
