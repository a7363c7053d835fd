-- The session's log, read record by record.
use Prim.Native.Nat.{ℕ}
use mathlib.Core.Path.{◌≡◌, refl}
use mathlib.Core.List.{List, [], ◌∷◌}
use Rattle.model.specs.Requests.{Request}
use Rattle.model.specs.Log.{Outcome, ended, request, NextAt, place_after}
use Rattle.model.specs.Machine.{requests}
use Rattle.model.specs.Session.{session, LogHolds, session_log, SessionRead}
use Rattle.model.proofs.Logging.{is_record, next_outcome, next_is}

from : List ℕ → ℕ → ℕ → List Request → List (ℕ × Outcome)
from log lent k [] = (k, ended) ∷ []
from log lent k (q ∷ qs) = (k, request q) ∷ from log lent (place_after log k (request q)) qs

read : List ℕ → ℕ → List (ℕ × Outcome) → List (ℕ × Outcome)
read log lent [] = []
read log lent ((k, x) ∷ l) = (k, next_outcome log lent k) ∷ read log lent l

abbrev AllNext : List ℕ → ℕ → List (ℕ × Outcome) → Type 0
AllNext log lent [] = Unit {0}
AllNext log lent ((k, x) ∷ l) = NextAt log lent k x × AllNext log lent l

all_next : (log : List ℕ) (lent : ℕ) (l : List (ℕ × Outcome)) → AllNext log lent (read log lent l)
unfolding read
all_next log lent [] = tt
all_next log lent ((k, x) ∷ l) = (next_is log lent k, all_next log lent l)

in_order : (log : List ℕ) (lent k : ℕ) (qs : List Request) → AllNext log lent (from log lent k qs) → LogHolds log lent k qs
unfolding from
in_order log lent k [] h = h.0
in_order log lent k (q ∷ qs) (h, hs) = (h, in_order log lent (place_after log k (request q)) qs hs)

session_computed : read session_log 256 (from session_log 256 0 (requests session)) ≡ from session_log 256 0 (requests session)
unfolding read from next_outcome is_record
session_computed = refl

pub session_read : SessionRead
session_read = in_order session_log 256 0 (requests session) (rw session_computed at (all_next session_log 256 (from session_log 256 0 (requests session))))
