-- The enum holds document 01's requests: all of them, and none twice.
use Prim.Native.Nat.{ℕ}
use mathlib.Core.Path.{◌≡◌, refl, sym, ap, ◌∙◌}
use Rattle.model.specs.Requests.{Request, event, set_policy, find, list, view}
use Rattle.kinds.specs.declared.Request.{Request as Asked}
use Rattle.kinds.specs.declared.Request.TheVariants.{Event, Set, Find, List, View}
use Rattle.kinds.specs.Kinds.{request_of}

abbrev asked_of : Request → Asked
asked_of (event v u a) = Event v u a
asked_of (set_policy u r p) = Set u r p
asked_of (find v u) = Find v u
asked_of (list v u places) = List v u
asked_of (view v u o) = View v u o

and_back : (q : Asked) (lent : ℕ) → asked_of (request_of q lent) ≡ q
and_back (Event v u a) lent = refl
and_back (Set u r p) lent = refl
and_back (Find v u) lent = refl
and_back (List v u) lent = refl
and_back (View v u o) lent = refl

pub asked_once : {q q' : Asked} (lent : ℕ) → request_of q lent ≡ request_of q' lent → q ≡ q'
asked_once {q} {q'} lent e = sym (and_back q lent) ∙ ap asked_of e ∙ and_back q' lent

-- how many places are lent
abbrev lent_of : Request → ℕ
lent_of (event v u a) = 0
lent_of (set_policy u r p) = 0
lent_of (find v u) = 0
lent_of (list v u places) = places
lent_of (view v u o) = 0

pub all_asked : (q : Request) → request_of (asked_of q) (lent_of q) ≡ q
all_asked (event v u a) = refl
all_asked (set_policy u r p) = refl
all_asked (find v u) = refl
all_asked (list v u places) = refl
all_asked (view v u o) = refl
