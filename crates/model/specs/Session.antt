-- The session (docs/reference.md, "The session").
use Rattle.std.specs.Prelude.{ℕ, ◌≡◌, List, [], ◌∷◌, length}
use Rattle.model.specs.SchemeBytes.{scheme_of, Accepted}
use Rattle.model.specs.Network.{fresh}
use Rattle.model.specs.Requests.{Request, event, set_policy, list, view, Turn}
use Rattle.model.specs.Log.{ended, request, NextAt, place_after}
use Rattle.model.specs.Machine.{Runs, requests}
use Rattle.model.specs.Standard.{standard_bytes}

abbrev pub line : Request → ℕ → List ℕ → Turn
line q k l = record { request = q; answer = k; written = l }

abbrev pub session : List Turn
session =
    line (event 0 1 0) 9 []
    ∷ line (set_policy 1 0 12) 0 []
    ∷ line (event 0 1 0) 11 []
    ∷ line (set_policy 1 2 4) 0 []
    ∷ line (event 0 1 0) 0 []
    ∷ line (event 0 1 1) 10 []
    ∷ line (event 1 0 1) 0 []
    ∷ line (view 1 0 1) 11 []
    ∷ line (set_policy 0 7 2) 0 []
    ∷ line (view 1 0 1) 0 []
    ∷ line (view 2 0 1) 9 []
    ∷ line (set_policy 1 1 4) 0 []
    ∷ line (list 2 1 256) 0 (0 ∷ [])
    ∷ line (view 2 0 1) 11 []
    ∷ line (event 1 0 3) 0 []
    ∷ line (view 2 0 1) 9 []
    ∷ []

-- the sixteen lines: under the standard scheme for four members, which is accepted, the plain machine answers so
abbrev pub SixteenLines : Type 0
SixteenLines =
    (length session ≡ 16)
    × Accepted (standard_bytes 4)
    × Runs (scheme_of (standard_bytes 4)) (fresh (scheme_of (standard_bytes 4))) session

-- the log holds these requests from a place on, record by record, and there it ends; a list is lent this many places
abbrev pub LogHolds : List ℕ → ℕ → ℕ → List Request → Type 0
LogHolds log lent k [] = NextAt log lent k ended
LogHolds log lent k (q ∷ qs) = NextAt log lent k (request q) × LogHolds log lent (place_after log k (request q)) qs

-- the session's log: sixteen records
abbrev pub session_log : List ℕ
session_log =
    5 ∷ 0 ∷ 16 ∷ 0 ∷ 0 ∷ 0 ∷ 1 ∷ 0 ∷ 0
    ∷ 4 ∷ 0 ∷ 17 ∷ 0 ∷ 1 ∷ 0 ∷ 0 ∷ 12
    ∷ 5 ∷ 0 ∷ 16 ∷ 0 ∷ 0 ∷ 0 ∷ 1 ∷ 0 ∷ 0
    ∷ 4 ∷ 0 ∷ 17 ∷ 0 ∷ 1 ∷ 0 ∷ 2 ∷ 4
    ∷ 5 ∷ 0 ∷ 16 ∷ 0 ∷ 0 ∷ 0 ∷ 1 ∷ 0 ∷ 0
    ∷ 5 ∷ 0 ∷ 16 ∷ 0 ∷ 0 ∷ 0 ∷ 1 ∷ 0 ∷ 1
    ∷ 5 ∷ 0 ∷ 16 ∷ 0 ∷ 1 ∷ 0 ∷ 0 ∷ 0 ∷ 1
    ∷ 5 ∷ 0 ∷ 20 ∷ 0 ∷ 1 ∷ 0 ∷ 0 ∷ 0 ∷ 1
    ∷ 4 ∷ 0 ∷ 17 ∷ 0 ∷ 0 ∷ 0 ∷ 7 ∷ 2
    ∷ 5 ∷ 0 ∷ 20 ∷ 0 ∷ 1 ∷ 0 ∷ 0 ∷ 0 ∷ 1
    ∷ 5 ∷ 0 ∷ 20 ∷ 0 ∷ 2 ∷ 0 ∷ 0 ∷ 0 ∷ 1
    ∷ 4 ∷ 0 ∷ 17 ∷ 0 ∷ 1 ∷ 0 ∷ 1 ∷ 4
    ∷ 4 ∷ 0 ∷ 19 ∷ 0 ∷ 2 ∷ 0 ∷ 1 ∷ 0
    ∷ 5 ∷ 0 ∷ 20 ∷ 0 ∷ 2 ∷ 0 ∷ 0 ∷ 0 ∷ 1
    ∷ 5 ∷ 0 ∷ 16 ∷ 0 ∷ 1 ∷ 0 ∷ 0 ∷ 0 ∷ 3
    ∷ 5 ∷ 0 ∷ 20 ∷ 0 ∷ 2 ∷ 0 ∷ 0 ∷ 0 ∷ 1
    ∷ []

abbrev pub SessionRead : Type 0
SessionRead = LogHolds session_log 256 0 (requests session)
