-- The plain machine as a function, and the sixteen lines.
use mathlib.Core.Path.{◌≡◌, refl}
use mathlib.Core.Bool.{Bool, true, ◌&&◌}
use mathlib.Core.List.{List, [], ◌∷◌}
use native.Mathlib.Omega.{arith}
use Rattle.model.specs.Graph.{count}
use Rattle.model.specs.Scheme.{Scheme, lowest_from}
use Rattle.model.specs.SchemeBytes.{policies, scheme_of}
use Rattle.model.specs.Network.{Maps, fresh, world}
use Rattle.model.specs.Requests.{Request, those, put, Turn}
use Rattle.model.specs.Machine.{after, Runs, requests}
use Rattle.model.specs.Standard.{standard_bytes}
use Rattle.model.specs.Session.{session, SixteenLines}
use Rattle.model.proofs.Computing.{some, every, among, is_within, friend_of_all, all_friends, some_list, is_clique, on_side, admits, stands, begins, goes, reached, closed, found, sure, finds, allows, first, turn, asks}
use Rattle.model.proofs.Deciding.{is_true, conj}
use Rattle.model.proofs.Judging.{judged}
use Rattle.model.proofs.StandardRead.{standard_accepted}

unfoldable pub play : Scheme → Maps → List Request → List Turn
play c s [] = []
play c s (q ∷ qs) = let t = turn c s q in t ∷ play c (after c s t) qs

-- each walk came to its end
unfoldable pub all_sure : Scheme → Maps → List Request → Bool
all_sure c s [] = true
all_sure c s (q ∷ qs) = sure (world c s) (asks q) && all_sure c (after c s (turn c s q)) qs

pub plays : (c : Scheme) (s : Maps) (qs : List Request) → all_sure c s qs ≡ true → Runs c s (play c s qs)
unfolding play turn all_sure
plays c s [] e = tt
plays c s (q ∷ qs) e =
    let (a, b) = (conj (is_true (sure (world c s) (asks q))) (is_true (all_sure c (after c s (turn c s q)) qs))).yes_if e in
    (record { answered = judged c s q a; wrote = refl }, plays c (after c s (turn c s q)) qs b)

session_played : play (scheme_of (standard_bytes 4)) (fresh (scheme_of (standard_bytes 4))) (requests session) ≡ session
unfolding play some every among is_within friend_of_all all_friends some_list is_clique on_side admits stands begins goes reached closed found sure finds allows first turn count lowest_from those put policies
session_played = refl

session_sure : all_sure (scheme_of (standard_bytes 4)) (fresh (scheme_of (standard_bytes 4))) (requests session) ≡ true
unfolding all_sure some every among is_within friend_of_all all_friends some_list is_clique on_side admits stands begins goes reached closed found sure finds allows first turn count lowest_from those put policies
session_sure = refl

pub sixteen_lines : SixteenLines
sixteen_lines = (
  refl,
  standard_accepted 4 (omega arith) (omega arith),
  rw session_played at (plays (scheme_of (standard_bytes 4)) (fresh (scheme_of (standard_bytes 4))) (requests session) session_sure),
)
