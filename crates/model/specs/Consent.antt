-- What makes two members friends under the standard scheme: consent on record (docs/reference.md, "Consent on record"). `claims::claims` ensures it
-- of the calls, `exported::claims` of the exported calls.
use Rattle.std.specs.Prelude.{ℕ, ◌<◌, ◌≤◌, ◌≡◌, Bool, ◌&&◌, ◌||◌, cond, List, [], ◌∷◌, ◌++◌, ◌↔◌, eqb, take}
use Rattle.model.specs.Graph.{Friends}
use Rattle.model.specs.SchemeBytes.{scheme_of}
use Rattle.model.specs.Network.{held, world}
use Rattle.model.specs.Requests.{Request, event, set_policy, find, list, view, Turn}
use Rattle.model.specs.Calls.{Fresh}
use Rattle.model.specs.History.{of_granted}
use Rattle.model.specs.Traces.{Trace, turns, last_bytes, Call, Happens, trace_of}
use Rattle.model.specs.Standard.{standard_bytes}
use Rattle.model.specs.Session.{session}
use Rattle.model.specs.Examples.{fresh_bytes}
use Rattle.model.specs.HiddenRecipe.{scheme, leaves}

-- three of the standard scheme's primitives
abbrev pub invite : ℕ
invite = 0

abbrev pub accept : ℕ
accept = 1

abbrev pub remove : ℕ
remove = 3

-- v and u are x and y, in either order
abbrev pub same_pair : ℕ → ℕ → ℕ → ℕ → Bool
same_pair x y v u = (eqb v x && eqb u y) || (eqb v y && eqb u x)

-- an event between x and y, whichever of them acts; nothing for every other request
abbrev pub event_between : ℕ → ℕ → Request → List Request
event_between x y (event v u a) = cond (same_pair x y v u) (event v u a ∷ []) []
event_between x y (set_policy u r p) = []
event_between x y (find v u) = []
event_between x y (list v u places) = []
event_between x y (view v u o) = []

-- the granted events between x and y, in order
abbrev pub granted_events : ℕ → ℕ → List Turn → List Request
granted_events x y ts = of_granted (event_between x y) ts

-- the last of these events is q, and the others stand before it
abbrev pub Ends : List Request → List Request → Request → Type 0
Ends events before q = events ≡ before ++ q ∷ []

-- the last of them is an accept
abbrev pub LastAccepts : List Request → Type 0
LastAccepts events = (before : List Request) × (v u : ℕ) × Ends events before (event v u accept)

-- where it is, the one just before it is an invite from the other side
abbrev pub OtherInvited : List Request → Type 0
OtherInvited events =
    (before : List Request) (v u : ℕ)
    → Ends events before (event v u accept)
    → (earlier : List Request) × Ends before earlier (event u v invite)

-- x and y are friends by the network's bytes, under the standard scheme for n members
abbrev pub FriendsIn : ℕ → List ℕ → ℕ → ℕ → Type 0
FriendsIn n net x y = Friends (world (scheme_of (standard_bytes n)) (held (scheme_of (standard_bytes n)) net)).graph x y

module _ (Calls : Call) where
  -- after every list of calls on a fresh network under the standard scheme, two members are friends exactly when the last granted event
  -- between them is an accept, and the granted event between them just before it is then an invite from the other side
  abbrev pub ConsentOnRecord : Type 0
  ConsentOnRecord =
      (n : ℕ) (net : List ℕ) (ts : Trace) (x y : ℕ)
      → 1 ≤ n
      → n ≤ 256
      → Fresh (standard_bytes n) net
      → Happens Calls (standard_bytes n) net ts
      → x < n
      → y < n
      → (x ≡ y → ⊥)
      → (FriendsIn n (last_bytes net ts) x y ↔ LastAccepts (granted_events x y (turns ts)))
      × OtherInvited (granted_events x y (turns ts))

  -- of the session's sixteen lines, all of which happen (`HiddenRecipe .session_happens`): 0 invites 1, which accepts, and in line 15 removes; the refused
  -- events, lines 1, 3 and 6, are left out
  pub record SessionConsent : Type 0 where
    pub fresh_net : Fresh (standard_bytes 4) fresh_bytes
    pub fourteen_happen : Happens Calls (standard_bytes 4) fresh_bytes (trace_of scheme fresh_bytes (take 14 session))
    pub accepted : granted_events 0 1 (take 14 session) ≡ event 0 1 invite ∷ event 1 0 accept ∷ []
    pub friends : FriendsIn 4 (leaves (take 14 session)) 0 1
    pub removed : granted_events 0 1 session ≡ event 0 1 invite ∷ event 1 0 accept ∷ event 1 0 remove ∷ []
    pub strangers : FriendsIn 4 (leaves session) 0 1 → ⊥
    pub no_events : granted_events 0 2 session ≡ []
    pub never_friends : FriendsIn 4 (leaves session) 0 2 → ⊥
