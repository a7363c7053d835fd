-- What is claimed of every list of calls (docs/reference.md, "The plain machine"): `claims::claims` ensures each, `exported::claims` those of
-- the exported calls.
use Rattle.std.specs.Prelude.{ℕ, ◌+◌, ◌<◌, ◌≡◌, List, ◌↔◌}
use Rattle.model.specs.Scheme.{Scheme}
use Rattle.model.specs.SchemeBytes.{scheme_of, Accepted}
use Rattle.model.specs.Finding.{Finds, Allows}
use Rattle.model.specs.Network.{Maps, fresh, Laid, held, Valid, world}
use Rattle.model.specs.Requests.{view, Turn}
use Rattle.model.specs.Calls.{Fresh}
use Rattle.model.specs.Machine.{Runs, requests}
use Rattle.model.specs.History.{replayed}
use Rattle.model.specs.TwoLists.{Similar, Alike, OthersSame}
use Rattle.model.specs.Traces.{Trace, turns, last_bytes, Matches, Call, Happens}

-- where lists of calls start: scheme, network, and the maps that the plain machine starts from
abbrev pub Start : Type 1
Start = List ℕ → List ℕ → Maps → Type 0

-- a fresh network, and the fresh maps
abbrev pub FromFresh : Start
FromFresh b net s = Fresh b net × (s ≡ fresh (scheme_of b))

-- any network that passes 5, and the maps that its bytes hold
abbrev pub FromValid : Start
FromValid b net s = Valid (scheme_of b) net × (s ≡ held (scheme_of b) net)

-- the claims, of lists of calls that start so: a to d from `FromFresh`, e to h, the same four, from `FromValid`
module _ (Calls : Call) (From : Start) where
  -- a. every list of calls is the plain machine's: answers, lists written, and the network after each
  abbrev pub EveryTrace : Type 0
  EveryTrace =
      (b net : List ℕ) (s : Maps) (ts : Trace)
      → Accepted b
      → From b net s
      → Happens Calls b net ts
      → Matches (scheme_of b) s ts

  -- b. after it each pair's state is the automaton's run over its granted events, and each setting the last granted one,
  -- where none was granted what the list started with
  abbrev pub RunsReplayed : Type 0
  RunsReplayed =
      (b net : List ℕ) (s : Maps) (ts : Trace)
      → Accepted b
      → From b net s
      → Happens Calls b net ts
      → Laid (scheme_of b) (replayed (scheme_of b) s (turns ts)) (last_bytes net ts)

  -- c. a view called next is granted exactly when, by these runs and settings, a chain leads to the owner and the item's setting admits the viewer
  abbrev pub ViewGranted : Type 0
  ViewGranted =
      (b net : List ℕ) (s : Maps) (ts : Trace) (v u o answer : ℕ) (written left : List ℕ)
      → Accepted b
      → From b net s
      → Happens Calls b net ts
      → v < (scheme_of b).members
      → u < (scheme_of b).members
      → o < (scheme_of b).items
      → Calls b (last_bytes net ts) (record { request = view v u o; answer = answer; written = written }) left
      → (answer ≡ 0)
      ↔ (Finds (world (scheme_of b) (replayed (scheme_of b) s (turns ts))) v u
      × Allows (world (scheme_of b) (replayed (scheme_of b) s (turns ts))) u (2 + (scheme_of b).primitives + o) v)

  -- d. two lists of the same start that differ at most in the p of sets of u's items: equal answers but to those sets and to views of u's items
  -- by who finds u at that moment, equal lists, and after both equal bytes but for u's settings of items
  abbrev pub ItemsUnseen : Type 0
  ItemsUnseen =
      (b : List ℕ) (u : ℕ) (net net' : List ℕ) (s : Maps) (ts ts' : Trace)
      → Accepted b
      → From b net s
      → From b net' s
      → Happens Calls b net ts
      → Happens Calls b net' ts'
      → Similar (scheme_of b) u (turns ts) (turns ts')
      → Alike (scheme_of b) u s (turns ts) (turns ts')
      × OthersSame (scheme_of b) u (last_bytes net ts) (last_bytes net' ts')

-- the plain machine, from any maps: at most one answer and one list for each request
abbrev pub OneAnswer : Type 0
OneAnswer =
    (c : Scheme) (s : Maps) (ts us : List Turn) → Runs c s ts → Runs c s us → requests ts ≡ requests us → ts ≡ us
