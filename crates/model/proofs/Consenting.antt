-- Under the standard scheme a pair's state tells the last of its granted events: an accept makes friends, and only where the other side has invited.
use Prim.Native.Nat.{ℕ, zero, suc, ◌-◌, ◌<◌, min, max}
use mathlib.Core.Path.{◌≡◌, refl, sym, ◌∙◌}
use mathlib.Core.Bool.{Bool, true, false, ◌&&◌, ◌||◌, not, cond, false≢true}
use mathlib.Core.List.{List, [], ◌∷◌, ◌++◌, append_assoc, append-nil}
use mathlib.Core.Logic.{◌⊎◌, inl, inr, ◌↔◌}
use native.Mathlib.Omega.{arith}
use native.Mathlib.Decide.{ℕ_discrete}
use borrow.Author.Tests.{eqb-true, eq-eqb, ne_eqb, lt-ltb}
use lib.Dec.{eqb, ltb}
use Rattle.model.specs.Answers.{Answers}
use Rattle.model.specs.Scheme.{Scheme}
use Rattle.model.specs.SchemeBytes.{scheme_of, Accepted}
use Rattle.model.specs.Network.{Maps, fresh, side, held, world}
use Rattle.model.specs.Requests.{Request, event, set_policy, find, list, view, needs, next, Defined, does, put, Turn, granted}
use Rattle.model.specs.Calls.{Called}
use Rattle.model.specs.Machine.{after, Runs, after_all}
use Rattle.model.specs.Traces.{turns, last_bytes, Matches, Call}
use Rattle.model.specs.Claims.{FromValid}
use Rattle.model.specs.Standard.{standard_bytes, next_in, standard_moves}
use Rattle.model.specs.Meaning.{invited_side}
use Rattle.model.specs.Consent.{invite, accept, same_pair, event_between, granted_events, Ends, LastAccepts, OtherInvited, ConsentOnRecord}
use Rattle.model.proofs.Computing.{every}
use Rattle.model.proofs.Deciding.{Says, is_eq, is_lt, conj, disj, negated, iff, says_once, every_holds}
use Rattle.model.proofs.Answering.{granted_met}
use Rattle.model.proofs.StandardRead.{standard_accepted, standard_read}
use Rattle.model.proofs.Held.{at_place}
use Rattle.model.proofs.Tracing.{side_small, fresh_start, matches_runs, traced}

pub same_list : {A : Type 0} (p q : A) (k l : List A) → ◌≡◌ {A = List A} (p ∷ k) (q ∷ l) → (p ≡ q) × (k ≡ l)
same_list p q k l e = (cc, cc)

-- a list has at most one last event
pub ends_once : (events before before' : List Request) (q q' : Request) → Ends events before q → Ends events before' q' → (before ≡ before') × (q ≡ q')
ends_once events before before' q q' e e' = go before before' (sym e ∙ e')
  where
    go : (k l : List Request) → k ++ q ∷ [] ≡ l ++ q' ∷ [] → (k ≡ l) × (q ≡ q')
    go [] [] h = (refl, (same_list q q' [] [] h).0)
    go [] (p ∷ []) h = absurd cc
    go [] (p ∷ (r ∷ l)) h = absurd cc
    go (p ∷ []) [] h = absurd cc
    go (p ∷ (r ∷ k)) [] h = absurd cc
    go (p ∷ k) (r ∷ l) h =
        let (a, b) = same_list p r _ _ h in
        let (c, d) = go k l b in
        (cc, d)

pub nothing_ends : (before : List Request) (q : Request) → Ends [] before q → ⊥
nothing_ends [] q e = cc
nothing_ends (p ∷ before) q e = cc

pub same_event : (v u a v' u' a' : ℕ) → event v u a ≡ event v' u' a' → (v ≡ v') × (u ≡ u') × (a ≡ a')
same_event v u a v' u' a' e = (cc, cc, cc)

-- the state that a defined move leaves: after an invite the other side is invited, after an accept they are friends, otherwise strangers
abbrev state_after : ℕ → ℕ → ℕ
state_after b zero = invited_side (1 - b)
state_after b (suc zero) = 3
state_after b (suc (suc a)) = 0

-- x is undefined, or that state, and an accept is then made by the side that is invited
abbrev ConsentKept : ℕ → ℕ → ℕ → ℕ → Type 0
ConsentKept q b a x = (x ≡ 255) ⊎ ((x < 4) × ((x ≡ state_after b a) × ((a ≡ accept → ⊥) ⊎ (q ≡ invited_side b))))

abbrev consent_kept : ℕ → ℕ → ℕ → ℕ → Bool
consent_kept q b a x = eqb x 255 || (ltb x 4 && (eqb x (state_after b a) && (not (eqb a accept) || eqb q (invited_side b))))

friends_after : (b a : ℕ) → state_after b a ≡ 3 → a ≡ accept
friends_after b zero e = absurd (omega arith)
friends_after b (suc zero) e = refl
friends_after b (suc (suc a)) e = absurd (omega arith)

invited_after : (b a b' : ℕ) → b' < 2 → state_after b a ≡ invited_side b' → (a ≡ invite) × (b' ≡ 1 - b)
invited_after b zero b' h e = (refl, omega arith)
invited_after b (suc zero) b' h e = absurd (omega arith)
invited_after b (suc (suc a)) b' h e = absurd (omega arith)

is_kept : (q b a x : ℕ) → Says (consent_kept q b a x) (ConsentKept q b a x)
is_kept q b a x = disj (is_eq x 255) (conj (is_lt x 4) (conj (is_eq x (state_after b a)) (disj (negated (is_eq a accept)) (is_eq q (invited_side b)))))

-- the whole table
table : every (λ q. every (λ b. every (λ a. consent_kept q b a (next_in standard_moves q b a)) 4) 2) 4 ≡ true
unfolding every
table = refl

-- v and u are x and y
abbrev pub SamePair : ℕ → ℕ → ℕ → ℕ → Type 0
SamePair x y v u = ((v ≡ x) × (u ≡ y)) ⊎ ((v ≡ y) × (u ≡ x))

pub is_same_pair : (x y v u : ℕ) → Says (same_pair x y v u) (SamePair x y v u)
is_same_pair x y v u = disj (conj (is_eq v x) (is_eq u y)) (conj (is_eq v y) (is_eq u x))

-- two members have different sides
sides_apart : (v u : ℕ) → (v ≡ u → ⊥) → side u v ≡ side v u → ⊥
sides_apart v u n e = go (ltb u v) (ltb v u) (is_lt u v) (is_lt v u) e
  where
    go : (s t : Bool) → Says s (u < v) → Says t (v < u) → ◌≡◌ {A = ℕ} (cond t 1 0) (cond s 1 0) → ⊥
    go true true d d' h = let l : u < v = d.yes_if refl in let g : v < u = d'.yes_if refl in omega arith
    go true false d d' h = omega arith
    go false true d d' h = omega arith
    go false false d d' h = let l : u < v → ⊥ = d.no_if refl in let g : v < u → ⊥ = d'.no_if refl in n (omega arith)

module _ (x y : ℕ) (apart : x ≡ y → ⊥) where
  -- the last of the events is an invite to side b
  abbrev Invited : ℕ → List Request → Type 0
  Invited b l = (earlier : List Request) × (v u : ℕ) × Ends l earlier (event v u invite) × SamePair x y v u × (side u v ≡ b)

  -- what the state of x and y tells of their granted events
  record Tells (q : ℕ) (l : List Request) : Type 0 where
    pub small : q < 4
    pub friends : (q ≡ 3) ↔ LastAccepts l
    pub invited : (b : ℕ) → b < 2 → q ≡ invited_side b → Invited b l
    pub other_invited : OtherInvited l

  without_events : Tells 0 []
  without_events = record {
    small = omega arith;
    friends = (λ e. absurd (omega arith), λ (before, v, u, e). absurd (nothing_ends before _ e));
    invited = λ b s e. absurd (omega arith);
    other_invited = λ before v u e. absurd (nothing_ends before _ e);
  }

  -- one granted event between them
  moved : (q v u a : ℕ) (l : List Request) → Tells q l → SamePair x y v u → a < 4 → Defined (next_in standard_moves q (side v u) a)
      → Tells (next_in standard_moves q (side v u) a) (l ++ event v u a ∷ [])
  moved q v u a l t w z d =
      go (next_in standard_moves q (side v u) a) d
      ((is_kept q (side v u) a _).yes_if (every_holds _ 4 (every_holds _ 2 (every_holds _ 4 table q t.small) (side v u) (side_small v u)) a z))
    where
      n : v ≡ u → ⊥
      n e = differ w
        where
          differ : SamePair x y v u → ⊥
          differ (inl (p, r)) = apart (sym p ∙ e ∙ r)
          differ (inr (p, r)) = apart (sym r ∙ sym e ∙ p)

      -- the event that an accept follows
      before_accept : q ≡ invited_side (side v u) → (earlier : List Request) × Ends l earlier (event u v invite)
      before_accept e =
          let (earlier, v', u', f, w', s) = t.invited (side v u) (side_small v u) e in
          (earlier, exchanged earlier v' u' w w' f s)
        where
          exchanged : (earlier : List Request) (v' u' : ℕ) → SamePair x y v u → SamePair x y v' u' → Ends l earlier (event v' u' invite) → side u' v' ≡ side v u → Ends l earlier (event u v invite)
          exchanged earlier v' u' (inl (p, r)) (inl (p', r')) f s = absurd (sides_apart v u n cc)
          exchanged earlier v' u' (inl (p, r)) (inr (p', r')) f s = cc
          exchanged earlier v' u' (inr (p, r)) (inl (p', r')) f s = cc
          exchanged earlier v' u' (inr (p, r)) (inr (p', r')) f s = absurd (sides_apart v u n cc)

      last_is : (before : List Request) (v' u' a' : ℕ) → Ends (l ++ event v u a ∷ []) before (event v' u' a') → (l ≡ before) × (v ≡ v') × (u ≡ u') × (a ≡ a')
      last_is before v' u' a' h =
          let (b, q) = ends_once (l ++ event v u a ∷ []) l before (event v u a) (event v' u' a') refl h in
          let (p, r, i) = same_event v u a v' u' a' q in
          (b, p, r, i)

      accepted : (a ≡ accept → ⊥) ⊎ (q ≡ invited_side (side v u)) → a ≡ accept → (earlier : List Request) × Ends l earlier (event u v invite)
      accepted (inl m) i = absurd (m i)
      accepted (inr e) i = before_accept e

      go : (s : ℕ) → Defined s → ConsentKept q (side v u) a s → Tells s (l ++ event v u a ∷ [])
      go s d (inl e) = absurd (d e)
      go s d (inr (k, (e, f))) = record {
        small = k;
        friends = (
          λ h. (l, v, u, rw (friends_after (side v u) a (sym e ∙ h)) refl),
          λ (before, v', u', h). let (b, p, r, i) = last_is before v' u' _ h in e ∙ rw i refl,
        );
        invited = λ b k' h.
            let (i, o) = invited_after (side v u) a b k' (sym e ∙ h) in
            (l, v, u, rw i refl, w, omega (arith, side_small u v, side_small v u, sides_apart v u n));
        other_invited = λ before v' u' h.
            let (b, p, r, i) = last_is before v' u' _ h in
            let (earlier, j) = accepted f i in
            (earlier, cc);
      }

-- the pair of v and u is that of x and y
pair_is : (x y v u : ℕ) → SamePair x y v u ↔ ((min x y ≡ min v u) × (max x y ≡ max v u))
pair_is x y v u = (to, from)
  where
    to : SamePair x y v u → (min x y ≡ min v u) × (max x y ≡ max v u)
    to (inl (p, r)) = (omega arith, omega arith)
    to (inr (p, r)) = (omega arith, omega arith)

    from : (min x y ≡ min v u) × (max x y ≡ max v u) → SamePair x y v u
    from (p, r) = go (ℕ_discrete v x)
      where
        go : Dec (v ≡ x) → SamePair x y v u
        go (yes e) = inl (e, omega arith)
        go (no n) = inr (omega arith, omega arith)

pub pair_test : (x y v u : ℕ) → (same_pair x y v u) ≡ (eqb (min x y) (min v u) && eqb (max x y) (max v u))
pair_test x y v u = says_once (iff (pair_is x y v u).0 (pair_is x y v u).1 (is_same_pair x y v u)) (at_place (min v u) (max v u) (min x y) (max x y))

module _ (n x y : ℕ) (apart : x ≡ y → ⊥) where
  abbrev c : Scheme
  c = scheme_of (standard_bytes n)

  abbrev state : Maps → ℕ
  state s = s.pair (min x y) (max x y)

  -- one turn: a granted event between x and y was defined, and nothing else moves their state
  after_turn : (s : Maps) (q : Request) (k : ℕ) (l : List Request) → Answers (needs c s q) k → Tells x y apart (state s) l
      → Tells x y apart (state (granted k (does c s q) s)) (l ++ granted k (event_between x y q) [])
  unfolding put
  after_turn s q (suc k) l h t = rw append-nil t
  after_turn s (event v u a) zero l h t = go (same_pair x y v u) (eqb (min x y) (min v u) && eqb (max x y) (max v u)) (pair_test x y v u) (is_same_pair x y v u).yes_if
    where
      go : (b b' : Bool) → b ≡ b' → (b ≡ true → SamePair x y v u)
          → Tells x y apart (cond b' (next c s v u a) (state s)) (l ++ cond b (event v u a ∷ []) [])
      go true true e f =
          let (m, (z, (o, (w, (d, i))))) = granted_met (needs c s (event v u a)) (omega arith) h in
          let (p, r) = (pair_is x y v u).0 (f refl) in
          let same : next c s v u a ≡ next_in standard_moves (state s) (side v u) a
          = rw (← p, ← r) ((standard_read n).moves (state s) (side v u) a t.small (side_small v u) z) in
          rw same (moved x y apart (state s) v u a l t (f refl) z (rw same at d))
      go true false e f = absurd (false≢true (sym e))
      go false true e f = absurd (false≢true e)
      go false false e f = rw append-nil t
  after_turn s (set_policy u r p) zero l h t = rw append-nil t
  after_turn s (find v u) zero l h t = rw append-nil t
  after_turn s (list v u p) zero l h t = rw append-nil t
  after_turn s (view v u o) zero l h t = rw append-nil t

  -- after every list of turns the state of x and y tells their granted events
  told : (s : Maps) (ts : List Turn) (l : List Request) → Runs c s ts → Tells x y apart (state s) l
      → Tells x y apart (state (after_all c s ts)) (l ++ granted_events x y ts)
  told s [] l m t = rw append-nil t
  told s (t ∷ ts) l (k, m) w =
      rw append_assoc at (told (after c s t) ts (l ++ granted t.answer (event_between x y t.request) []) m (after_turn s t.request t.answer l k.answered w))

  -- two members are friends by the state of their pair
  by_state : (s : Maps) → x < c.members → y < c.members → (world c s).graph.friends x y ≡ c.friendly (state s)
  by_state s b b' = rw (lt-ltb x c.members b, lt-ltb y c.members b', ne_eqb x y apart) refl

module _ (Calls : Call) (sound : (b net : List ℕ) (t : Turn) (after : List ℕ) → Calls b net t after → Called b net t after) where
  pub consent_on_record : ConsentOnRecord Calls
  consent_on_record n net ts x y low high f h b b' apart =
      ((λ e. t.friends.0 (eqb-true _ 3 (sym are ∙ e)), λ e. are ∙ eq-eqb _ 3 (t.friends.1 e)), t.other_invited)
    where
      s : Scheme
      s = scheme_of (standard_bytes n)

      a : Accepted (standard_bytes n)
      a = standard_accepted n low (omega arith)

      ran : Matches s (fresh s) ts × FromValid (standard_bytes n) (last_bytes net ts) (after_all s (fresh s) (turns ts))
      ran = traced Calls sound (standard_bytes n) a net (fresh s) (fresh_start (standard_bytes n) net (fresh s) a (f, refl)) ts h

      t : Tells x y apart ((held s (last_bytes net ts)).pair (min x y) (max x y)) (granted_events x y (turns ts))
      t = rw ran.1.1 at (told n x y apart (fresh s) (turns ts) [] (matches_runs s (fresh s) ts ran.0) (without_events x y apart))

      are : (world s (held s (last_bytes net ts))).graph.friends x y ≡ eqb ((held s (last_bytes net ts)).pair (min x y) (max x y)) 3
      are =
          by_state n x y apart (held s (last_bytes net ts)) (omega (arith, (standard_read n).members)) (omega (arith, (standard_read n).members))
          ∙ (standard_read n).friends _ t.small
