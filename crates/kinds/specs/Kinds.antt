-- Document 01's request.
use Rattle.std.specs.Prelude.{ℕ}
use Rattle.model.specs.Requests.{Request, event, set_policy, find, list, view}
use Rattle.kinds.specs.declared.Request.{Request as Asked}
use Rattle.kinds.specs.declared.Request.TheVariants.{Event, Set, Find, List, View}

-- where a list is lent this many places
abbrev pub request_of : Asked → ℕ → Request
request_of (Event v u a) lent = event v u a
request_of (Set u r p) lent = set_policy u r p
request_of (Find v u) lent = find v u
request_of (List v u) lent = list v u lent
request_of (View v u o) lent = view v u o
