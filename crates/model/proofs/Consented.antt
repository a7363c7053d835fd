-- What holds the claim of consent and its definitions in place, the claim in other words, and the session's list.
use Prim.Native.Nat.{ℕ, zero, suc, ◌<◌, ◌≤◌, min, max}
use mathlib.Core.Path.{◌≡◌, refl, sym, ◌∙◌, ap, ap₂}
use mathlib.Core.Bool.{Bool, true, false, ◌&&◌, cond, or_comm, false≢true}
use mathlib.Core.List.{List, [], ◌∷◌, ◌++◌, map, append_assoc}
use mathlib.Core.Logic.{◌⊎◌, inl, inr, ◌↔◌}
use native.Mathlib.Omega.{arith}
use lib.Dec.{eqb}
use lib.ListN.{take, drop}
use Rattle.model.specs.Scheme.{Scheme}
use Rattle.model.specs.Network.{Maps, held, fresh, side}
use Rattle.model.specs.Requests.{Request, event, set_policy, find, list, view, Turn, granted, answered}
use Rattle.model.specs.Calls.{Called, Fresh}
use Rattle.model.specs.Machine.{Runs, after}
use Rattle.model.specs.History.{move_of, of_granted, moves}
use Rattle.model.specs.Traces.{Trace, turns, last_bytes, Call, Happens, trace_of}
use Rattle.model.specs.Standard.{standard_bytes}
use Rattle.model.specs.Session.{session}
use Rattle.model.specs.Examples.{fresh_bytes}
use Rattle.model.specs.HiddenRecipe.{scheme}
use Rattle.model.specs.Consent.{invite, accept, same_pair, event_between, granted_events, Ends, LastAccepts, OtherInvited, FriendsIn, ConsentOnRecord, SessionConsent}
use Rattle.model.proofs.Exemplified.{layout}
use Rattle.model.proofs.Playing.{sixteen_lines}
use Rattle.model.proofs.Tracing.{fresh_start}
use Rattle.model.proofs.Happening.{runs_happen}
use Rattle.model.proofs.Consenting.{same_list, same_event, nothing_ends, SamePair, is_same_pair, pair_test}

-- every list of events but the empty one has a last
pub ends_some : (q : Request) (events : List Request) → (before : List Request) × (last : Request) × Ends (q ∷ events) before last
ends_some q [] = ([], q, refl)
ends_some q (p ∷ events) =
    let (before, last, e) = ends_some p events in
    (q ∷ before, last, ap (λ (l : List Request). q ∷ l) e)

-- whichever of the two is named first
event_turned : (x y : ℕ) (q : Request) → event_between x y q ≡ event_between y x q
event_turned x y (event v u a) = rw or_comm refl
event_turned x y (set_policy u r p) = refl
event_turned x y (find v u) = refl
event_turned x y (list v u places) = refl
event_turned x y (view v u o) = refl

pub granted_turned : (x y : ℕ) (ts : List Turn) → granted_events x y ts ≡ granted_events y x ts
granted_turned x y [] = refl
granted_turned x y (t ∷ ts) = rw (event_turned x y t.request, granted_turned x y ts) refl

-- events, each granted
abbrev all_granted : List Request → List Turn
all_granted l = map (λ (q : Request). answered q 0) l

all_joined : {A : Type 0} (f : Request → List A) (k l : List Request)
    → of_granted f (all_granted (k ++ l)) ≡ of_granted f (all_granted k) ++ of_granted f (all_granted l)
all_joined f [] l = refl
all_joined f (q ∷ k) l = rw (all_joined f k l, append_assoc) refl

-- the granted events are those that claim b's run of the pair reads
pub moves_granted : (i j : ℕ) → i < j → (ts : List Turn) → moves i j ts ≡ moves i j (all_granted (granted_events i j ts))
moves_granted i j h [] = refl
moves_granted i j h (t ∷ ts) =
    rw (all_joined (move_of i j) (granted t.answer (event_between i j t.request) []) (granted_events i j ts), ← turn_read t.answer t.request, ← moves_granted i j h ts) refl
  where
    read : (q : Request) → move_of i j q ≡ moves i j (all_granted (event_between i j q))
    read (event v u a) = rw (pair_test i j v u, l, g) (go (eqb i (min v u) && eqb j (max v u)) refl)
      where
        l : min i j ≡ i
        l = omega arith

        g : max i j ≡ j
        g = omega arith

        go : (b : Bool) → (eqb i (min v u) && eqb j (max v u)) ≡ b → cond b ((side v u, a) ∷ []) [] ≡ moves i j (all_granted (cond b (event v u a ∷ []) []))
        go true e = rw e refl
        go false e = refl
    read (set_policy u r p) = refl
    read (find v u) = refl
    read (list v u places) = refl
    read (view v u o) = refl

    turn_read : (k : ℕ) (q : Request) → granted k (move_of i j q) [] ≡ moves i j (all_granted (granted k (event_between i j q) []))
    turn_read zero q = read q
    turn_read (suc k) q = refl

-- an event between x and y
abbrev pub IsEvent : ℕ → ℕ → Request → Type 0
IsEvent x y q = (v u a : ℕ) × (q ≡ event v u a) × SamePair x y v u

is_event : (x y : ℕ) (q : Request) → (event_between x y q ≡ []) ⊎ ((event_between x y q ≡ q ∷ []) × IsEvent x y q)
is_event x y (event v u a) = go (same_pair x y v u) (is_same_pair x y v u).yes_if
  where
    go : (b : Bool) → (b ≡ true → SamePair x y v u)
        → (cond b (event v u a ∷ []) [] ≡ []) ⊎ ((cond b (event v u a ∷ []) [] ≡ event v u a ∷ []) × IsEvent x y (event v u a))
    go true f = inr (refl, (v, u, a, refl, f refl))
    go false f = inl refl
is_event x y (set_policy u r p) = inl refl
is_event x y (find v u) = inl refl
is_event x y (list v u places) = inl refl
is_event x y (view v u o) = inl refl

-- a turn's share of the events: nothing, or its request, granted, an event between x and y
abbrev Share : ℕ → ℕ → ℕ → Request → Type 0
Share x y k q = (granted k (event_between x y q) [] ≡ []) ⊎ ((granted k (event_between x y q) [] ≡ q ∷ []) × (k ≡ 0) × IsEvent x y q)

share : (x y k : ℕ) (q : Request) → Share x y k q
share x y (suc k) q = inl refl
share x y zero q = go (is_event x y q)
  where
    go : (event_between x y q ≡ []) ⊎ ((event_between x y q ≡ q ∷ []) × IsEvent x y q) → Share x y 0 q
    go (inl e) = inl e
    go (inr (e, i)) = inr (e, refl, i)

-- turns up to one that was granted, whose request is that event; with it they have these events
pub record UpTo (x y : ℕ) (ts : List Turn) (before : List Request) (q : Request) : Type 0 where
  pub earlier : List Turn
  pub turn : Turn
  pub later : List Turn
  pub split : ts ≡ earlier ++ turn ∷ later
  pub events : granted_events x y (earlier ++ turn ∷ []) ≡ before ++ q ∷ []
  pub asks : turn.request ≡ q
  pub was_granted : turn.answer ≡ 0
  pub between : IsEvent x y q

-- the same with a turn more in front
turn_in_front : (x y : ℕ) (t : Turn) (ts : List Turn) (before : List Request) (q : Request)
    → UpTo x y ts before q → UpTo x y (t ∷ ts) (granted t.answer (event_between x y t.request) [] ++ before) q
turn_in_front x y t ts before q w = record {
  earlier = t ∷ w.earlier;
  turn = w.turn;
  later = w.later;
  split = ap (λ (l : List Turn). t ∷ l) w.split;
  events = rw (w.events, append_assoc) refl;
  asks = w.asks;
  was_granted = w.was_granted;
  between = w.between;
}

-- each of the events is such a turn's
pub up_to : (x y : ℕ) (ts : List Turn) (before rest : List Request) (q : Request) → granted_events x y ts ≡ before ++ q ∷ rest → UpTo x y ts before q
up_to x y [] [] rest q e = absurd cc
up_to x y [] (p ∷ before) rest q e = absurd cc
up_to x y (t ∷ ts) before rest q e = go (share x y t.answer t.request) before e (λ k f. turn_in_front x y t ts k q (up_to x y ts k rest q f))
  where
    go : Share x y t.answer t.request → (k : List Request) → granted t.answer (event_between x y t.request) [] ++ granted_events x y ts ≡ k ++ q ∷ rest
        → ((j : List Request) → granted_events x y ts ≡ j ++ q ∷ rest → UpTo x y (t ∷ ts) (granted t.answer (event_between x y t.request) [] ++ j) q)
        → UpTo x y (t ∷ ts) k q
    go (inl n) k h later = rw n at (later k (rw n at h))
    go (inr (n, z, i)) [] h later =
        let (p, r) = same_list t.request q _ _ (rw n at h) in
        record { earlier = []; turn = t; later = ts; split = refl; events = rw (n, p) refl; asks = p; was_granted = z; between = rw p at i }
    go (inr (n, z, i)) (p ∷ k) h later =
        let (f, r) = same_list t.request p _ _ (rw n at h) in
        rw (← f) (rw n at (later k r))

-- a list of calls up to a turn
front : (Calls : Call) (b net : List ℕ) (ts : Trace) (us vs : List Turn) (t : Turn) → Happens Calls b net ts → turns ts ≡ us ++ t ∷ vs
    → (ps : Trace) × Happens Calls b net ps × (turns ps ≡ us ++ t ∷ [])
front Calls b net [] [] vs t h e = absurd cc
front Calls b net [] (u ∷ us) vs t h e = absurd cc
front Calls b net ((s, left) ∷ ts) [] vs t (k, h) e =
    let (f, g) = same_list s t (turns ts) vs e in
    ((s, left) ∷ [], (k, tt), ap (λ (x : Turn). x ∷ []) f)
front Calls b net ((s, left) ∷ ts) (u ∷ us) vs t (k, h) e =
    let (f, g) = same_list s u (turns ts) (us ++ t ∷ vs) e in
    let (ps, h', p) = front Calls b left ts us vs t h g in
    ((s, left) ∷ ps, (k, h'), ap₂ (λ (x : Turn) (l : List Turn). x ∷ l) f p)

last_two : (events before earlier : List Request) (p q : Request) → Ends events before q → Ends before earlier p → events ≡ earlier ++ p ∷ q ∷ []
last_two events before earlier p q e f = rw (e, f, append_assoc) refl

-- the claim in other words
module _ (Calls : Call) (claim : ConsentOnRecord Calls) (n : ℕ) (low : 1 ≤ n) (high : n ≤ 256) (net : List ℕ) (fresh_net : Fresh (standard_bytes n) net)
    (ts : Trace) (happens : Happens Calls (standard_bytes n) net ts) (x y : ℕ) (b : x < n) (b' : y < n) (apart : x ≡ y → ⊥) where
  said : (FriendsIn n (last_bytes net ts) x y ↔ LastAccepts (granted_events x y (turns ts))) × OtherInvited (granted_events x y (turns ts))
  said = claim n net ts x y low (omega arith) fresh_net happens b b' apart

  -- friends: one of the two has invited, the other has accepted, and nothing was granted between them since
  pub both_consented : FriendsIn n (last_bytes net ts) x y
      → (earlier : List Request) × (v u : ℕ) × SamePair x y v u × (granted_events x y (turns ts) ≡ earlier ++ event u v invite ∷ event v u accept ∷ [])
  both_consented e =
      let (before, v, u, f) = said.0.0 e in
      let (earlier, g) = said.1 before v u f in
      (earlier, v, u, the_two v u (up_to x y (turns ts) before [] (event v u accept) f).between, last_two _ before earlier (event u v invite) (event v u accept) f g)
    where
      the_two : (v u : ℕ) → IsEvent x y (event v u accept) → SamePair x y v u
      the_two v u (v', u', a, e, w) = let (p, r, i) = same_event v u accept v' u' a e in rw (p, r) w

  -- whoever has accepted last is a friend
  pub friends_where_accepted : (before : List Request) (v u : ℕ) → Ends (granted_events x y (turns ts)) before (event v u accept)
      → FriendsIn n (last_bytes net ts) x y
  friends_where_accepted before v u e = said.0.1 (before, v, u, e)

  -- without granted events they are no friends
  pub no_friends_unasked : granted_events x y (turns ts) ≡ [] → FriendsIn n (last_bytes net ts) x y → ⊥
  no_friends_unasked e f =
      let (before, v, u, g) = said.0.0 f in
      nothing_ends before _ (sym e ∙ g)

  -- every granted accept, and not the last alone, comes just after an invite from the other side
  pub accept_follows : (before rest : List Request) (v u : ℕ) → granted_events x y (turns ts) ≡ before ++ event v u accept ∷ rest
      → (earlier : List Request) × Ends before earlier (event u v invite)
  accept_follows before rest v u e =
      let w : UpTo x y (turns ts) before (event v u accept) = up_to x y (turns ts) before rest (event v u accept) e in
      let (ps, h, p) = front Calls (standard_bytes n) net ts w.earlier w.later w.turn happens w.split in
      (claim n net ps x y low (omega arith) fresh_net h b b' apart).1 before v u (rw p w.events)

  -- so it is never the first
  pub never_first : (rest : List Request) (v u : ℕ) → granted_events x y (turns ts) ≡ event v u accept ∷ rest → ⊥
  never_first rest v u e =
      let (earlier, f) = accept_follows [] rest v u e in
      nothing_ends earlier _ f

-- a run of the machine up to some turn
runs_front : (c : Scheme) (s : Maps) (ts us : List Turn) → Runs c s (ts ++ us) → Runs c s ts
runs_front c s [] us r = tt
runs_front c s (t ∷ ts) us (j, r) = (j, runs_front c (after c s t) ts us r)

-- calls that may be whatever `Called` says, and no more
module _ (Calls : Call) (sound : (b net : List ℕ) (t : Turn) (after : List ℕ) → Calls b net t after → Called b net t after) (complete : (b net : List ℕ) (t : Turn) (after : List ℕ) → Called b net t after → Calls b net t after) where
  happen : (ts : List Turn) → Runs scheme (fresh scheme) ts → Happens Calls (standard_bytes 4) fresh_bytes (trace_of scheme fresh_bytes ts)
  happen ts r = runs_happen Calls complete (standard_bytes 4) sixteen_lines.1 fresh_bytes (fresh scheme) (fresh_start (standard_bytes 4) fresh_bytes (fresh scheme) sixteen_lines.1 (layout.fresh, refl)) ts r

  pub session_consent : SessionConsent Calls
  unfolding held
  session_consent = record {
    fresh_net = layout.fresh;
    fourteen_happen = happen (take 14 session) (runs_front scheme (fresh scheme) (take 14 session) (drop 14 session) sixteen_lines.2);
    accepted = refl;
    friends = refl;
    removed = refl;
    strangers = λ e. false≢true e;
    no_events = refl;
    never_friends = λ e. false≢true e;
  }

pub called_session_consent : SessionConsent Called
called_session_consent = session_consent Called (λ b net t after k. k) (λ b net t after k. k)
