-- Lists of calls for which the claims say something: two that differ in what 0 lets see of its recipe (docs/reference.md, "The plain machine").
use Rattle.std.specs.Prelude.{ℕ, ◌≡◌, List, [], ◌∷◌, get_or}
use Rattle.model.specs.Scheme.{Scheme}
use Rattle.model.specs.SchemeBytes.{scheme_of, Accepted}
use Rattle.model.specs.Network.{Maps, fresh, setting_place}
use Rattle.model.specs.Requests.{event, set_policy, view, Turn}
use Rattle.model.specs.Machine.{after_all}
use Rattle.model.specs.TwoLists.{Similar, Viewed, Alike, OthersSame}
use Rattle.model.specs.Traces.{last_bytes, Call, Happens, trace_of}
use Rattle.model.specs.Claims.{FromFresh, FromValid}
use Rattle.model.specs.Standard.{standard_bytes}
use Rattle.model.specs.Session.{line, session}
use Rattle.model.specs.Examples.{fresh_bytes}

-- the standard scheme for four members
abbrev pub scheme : Scheme
scheme = scheme_of (standard_bytes 4)

-- 1 lets everyone find it and invite it; 0 invites it, and it accepts
abbrev pub befriended : List Turn → List Turn
befriended ts =
    line (set_policy 1 0 12) 0 []
    ∷ line (set_policy 1 2 4) 0 []
    ∷ line (event 0 1 0) 0 []
    ∷ line (event 1 0 1) 0 []
    ∷ ts

-- 0 shows its recipe to friends; its friend 1 sees it, 2 does not find 0; then 0 chooses everyone
abbrev pub shown : List Turn
shown =
    befriended
    (line (set_policy 0 7 2) 0 []
    ∷ line (view 1 0 1) 0 []
    ∷ line (view 2 0 1) 9 []
    ∷ line (set_policy 0 7 4) 0 []
    ∷ [])

-- 0 shows its recipe to no one; 1 still finds 0, 2 does not; then 0 chooses what is not offered
abbrev pub hidden : List Turn
hidden =
    befriended
    (line (set_policy 0 7 0) 0 []
    ∷ line (view 1 0 1) 11 []
    ∷ line (view 2 0 1) 9 []
    ∷ line (set_policy 0 7 12) 12 []
    ∷ [])

-- the maps at the two views of the first list
abbrev pub at_views : Maps
at_views = after_all scheme (fresh scheme) (befriended (line (set_policy 0 7 2) 0 [] ∷ []))

-- what a list from a fresh network leaves
abbrev pub leaves : List Turn → List ℕ
leaves ts = last_bytes fresh_bytes (trace_of scheme fresh_bytes ts)

pub record HiddenRecipe (Calls : Call) : Type 0 where
  -- what claims a to d ask: an accepted scheme, a fresh network, lists of calls, and that two are similar
  pub accepted : Accepted (standard_bytes 4)
  pub starts_fresh : FromFresh (standard_bytes 4) fresh_bytes (fresh scheme)
  pub session_happens : Happens Calls (standard_bytes 4) fresh_bytes (trace_of scheme fresh_bytes session)
  pub shown_happens : Happens Calls (standard_bytes 4) fresh_bytes (trace_of scheme fresh_bytes shown)
  pub hidden_happens : Happens Calls (standard_bytes 4) fresh_bytes (trace_of scheme fresh_bytes hidden)
  pub similar : Similar scheme 0 shown hidden
  -- what claims e to h ask: a list from the bytes that another left; and what claim c asks besides: a view called next
  pub starts_valid : FromValid (standard_bytes 4) (leaves shown) (after_all scheme (fresh scheme) shown)
  pub next_happens : Happens Calls (standard_bytes 4) (leaves shown) (trace_of scheme (leaves shown) (line (view 1 0 1) 0 [] ∷ []))
  -- what claim d says of the two
  pub alike : Alike scheme 0 (fresh scheme) shown hidden
  pub others_same : OthersSame scheme 0 (leaves shown) (leaves hidden)
  -- the byte of 0's recipe does differ
  pub recipe_shown : get_or (leaves shown) (setting_place scheme 0 7) 0 ≡ 4
  pub recipe_hidden : get_or (leaves hidden) (setting_place scheme 0 7) 0 ≡ 0
  -- the view of 1 may be answered differently; that of 2, of another member's item, or by no member, may not
  pub may_differ : Viewed scheme 0 at_views (view 1 0 1)
  pub not_by_two : Viewed scheme 0 at_views (view 2 0 1) → ⊥
  pub not_another's : (v u o : ℕ) → (u ≡ 0 → ⊥) → Viewed scheme 0 at_views (view v u o) → ⊥
  pub not_by_none : (o : ℕ) → Viewed scheme 0 at_views (view 4 0 o) → ⊥
