-- Every list of calls on a valid network, a fresh one among them, is a run of the plain machine.
use Prim.Native.Nat.{ℕ, zero, suc, ◌<◌, min, max}
use mathlib.Core.Path.{◌≡◌, refl, sym, ◌∙◌, ap, subst}
use mathlib.Core.Bool.{Bool, true, false, ◌&&◌, cond}
use mathlib.Core.List.{List, [], ◌∷◌}
use mathlib.Core.Logic.{inl, inr}
use native.Mathlib.Omega.{arith}
use lib.Dec.{eqb, ltb}
use lib.ListN.{length, length-set}
use Rattle.model.specs.Answers.{Answers}
use Rattle.model.specs.Bytes.{bit}
use Rattle.model.specs.Scheme.{Scheme}
use Rattle.model.specs.SchemeBytes.{scheme_of, scheme_needs, Accepted}
use Rattle.model.specs.Network.{side, Maps, fresh, pair_place, setting_place, size, Laid, held, Valid, Fits}
use Rattle.model.specs.Requests.{Request, event, set_policy, find, list, view, next, needs, put, does, Turn, granted}
use Rattle.model.specs.Calls.{puts, Called, Fresh}
use Rattle.model.specs.Machine.{Judged, after, Runs, after_all}
use Rattle.model.specs.Traces.{Trace, turns, last_bytes, Matches, Call, Happens}
use Rattle.model.specs.Claims.{Start, FromFresh, FromValid, EveryTrace, RunsReplayed, ViewGranted, ItemsUnseen}
use Rattle.model.proofs.KeepsFit.{KeepsFit, accepted_keeps}
use Rattle.model.proofs.Replayed.{all_replayed, view_next}
use Rattle.model.proofs.Unseen.{apart_refl, unseen, laid_apart}
use Rattle.model.proofs.Answering.{Numbered, AllMet, granted_met, past}
use Rattle.model.proofs.ByteChanged.{pair_held, set_held}
use Rattle.model.proofs.Held.{at_place, held_laid, held_fresh}

fits_put : (c : Scheme) (s : Maps) → Fits c s → (i j x : ℕ) → x < c.states → Fits c (record { pair = put s.pair i j x; setting = s.setting })
unfolding put
fits_put c s f i j x b = record {
  states = λ k l d e. go k l (eqb k i && eqb l j) (f.states k l d e);
  settings = f.settings;
}
  where
    go : (k l : ℕ) (t : Bool) → s.pair k l < c.states → cond t x (s.pair k l) < c.states
    go k l true h = b
    go k l false h = h

fits_set : (c : Scheme) (s : Maps) → Fits c s → (u r x : ℕ) → bit (c.mask r) x ≡ true → Fits c (record { pair = s.pair; setting = put s.setting u r x })
unfolding put
fits_set c s f u r x b = record {
  states = f.states;
  settings = λ m t d e. go m t (eqb m u && eqb t r) (at_place u r m t).yes_if (f.settings m t d e);
}
  where
    go : (m t : ℕ) (y : Bool) → (y ≡ true → (m ≡ u) × (t ≡ r)) → bit (c.mask t) (s.setting m t) ≡ true → bit (c.mask t) (cond y x (s.setting m t)) ≡ true
    go m t true q h = rw (q refl).1 b
    go m t false q h = h

pub side_small : (v u : ℕ) → side v u < 2
side_small v u = go (ltb u v)
  where
    go : (t : Bool) → cond t 1 0 < 2
    go true = omega arith
    go false = omega arith

-- a granted request: the bytes become what the maps become
Kept : Scheme → List ℕ → Request → Type 0
Kept c net q = (held c (puts c net q) ≡ does c (held c net) q) × Fits c (does c (held c net) q) × (length (puts c net q) ≡ size c)

kept : (c : Scheme) → KeepsFit c → (net : List ℕ) → Valid c net → (q : Request) → AllMet (needs c (held c net) q) → Kept c net q
unfolding Kept
kept c keeps net w (event v u a) ((x, y), (z, (n, (f, (d, k))))) = (
  pair_held c net w.sized (min v u) (max v u) (next c (held c net) v u a) (omega arith) (omega arith),
  fits_put c (held c net) w.fits (min v u) (max v u) (next c (held c net) v u a)
      (keeps.moves ((held c net).pair (min v u) (max v u)) (side v u) a (w.fits.states (min v u) (max v u) (omega arith) (omega arith)) (side_small v u) z d),
  length-set net (pair_place (min v u) (max v u)) (next c (held c net) v u a) ∙ w.sized,
)
kept c keeps net w (set_policy u r p) (x, (y, (z, h))) = (
  set_held c net w.sized u r p x y,
  fits_set c (held c net) w.fits u r p z,
  length-set net (setting_place c u r) p ∙ w.sized,
)
kept c keeps net w (find v u) h = (refl, w.fits, w.sized)
kept c keeps net w (list v u n) h = (refl, w.fits, w.sized)
kept c keeps net w (view v u o) h = (refl, w.fits, w.sized)

numbered : (c : Scheme) (s : Maps) (q : Request) → Numbered (needs c s q)
numbered c s (event v u a) = omega arith
numbered c s (set_policy u r p) = omega arith
numbered c s (find v u) = omega arith
numbered c s (list v u n) = omega arith
numbered c s (view v u o) = omega arith

-- one call on a whole network, under an accepted scheme
pub called : (b : List ℕ) → Accepted b → (net : List ℕ) (t : Turn) (left : List ℕ) → Valid (scheme_of b) net → Called b net t left
    → Judged (scheme_of b) (held (scheme_of b) net) t × (held (scheme_of b) left ≡ after (scheme_of b) (held (scheme_of b) net) t) × Valid (scheme_of b) left
unfolding Kept
called b a net t left w k = go (past (scheme_needs b) ((5, Valid c net) ∷ needs c (held c net) t.request) t.answer (granted_met (scheme_needs b) (omega arith) a) k.answered)
  where
    c : Scheme
    c = scheme_of b

    become : (x : ℕ) → left ≡ granted x (puts c net t.request) net → Answers (needs c (held c net) t.request) x
        → (held c left ≡ granted x (does c (held c net) t.request) (held c net)) × Valid c left
    become zero e h =
        let (x, y, z) = kept c (accepted_keeps b a) net w t.request (granted_met (needs c (held c net) t.request) (numbered c (held c net) t.request) h) in
        rw e (x, record { sized = z; fits = rw x y })
    become (suc x) e h = rw e (refl, w)

    go : Answers ((5, Valid c net) ∷ needs c (held c net) t.request) t.answer → Judged c (held c net) t × (held c left ≡ after c (held c net) t) × Valid c left
    go (inl (n, e)) = absurd (n w)
    go (inr (x, h)) =
        let (p, q) = become t.answer k.bytes h in
        (record { answered = h; wrote = k.wrote }, p, q)

fresh_valid : (b : List ℕ) → Accepted b → (net : List ℕ) → Fresh b net → Valid (scheme_of b) net
fresh_valid b a net l = record {
  sized = l.sized;
  fits = rw (held_fresh (scheme_of b) net l) (record { states = λ i j x y. (accepted_keeps b a).some_state; settings = λ m r x y. (accepted_keeps b a).masks r y });
}

-- a fresh network is a case of a valid one
pub fresh_start : (b net : List ℕ) (s : Maps) → Accepted b → FromFresh b net s → FromValid b net s
fresh_start b net s a (l, e) = (fresh_valid b a net l, e ∙ sym (held_fresh (scheme_of b) net l))

pub valid_start : (b net : List ℕ) (s : Maps) → Accepted b → FromValid b net s → FromValid b net s
valid_start b net s a f = f

start_laid : (b net : List ℕ) (s : Maps) → FromValid b net s → Laid (scheme_of b) s net
start_laid b net s (w, e) = rw e (held_laid (scheme_of b) net w.sized)

pub matches_runs : (c : Scheme) (s : Maps) (ts : Trace) → Matches c s ts → Runs c s (turns ts)
matches_runs c s [] m = tt
matches_runs c s ((t, net) ∷ ts) (j, l, m) = (j, matches_runs c (after c s t) ts m)

-- every list of calls; a call is at least what `Called` says
module _ (Calls : Call) (sound : (b net : List ℕ) (t : Turn) (after : List ℕ) → Calls b net t after → Called b net t after) where
  -- the turns are the machine's, and where they end another list could start
  pub traced : (b : List ℕ) → Accepted b → (net : List ℕ) (s : Maps) → FromValid b net s → (ts : Trace) → Happens Calls b net ts
      → Matches (scheme_of b) s ts × FromValid b (last_bytes net ts) (after_all (scheme_of b) s (turns ts))
  traced b a net s f [] k = (tt, f)
  traced b a net s (w, e) ((t, left) ∷ ts) (k, ks) =
      let (j, h, w') = called b a net t left w (sound b net t left k) in
      let e' : after (scheme_of b) s t ≡ held (scheme_of b) left = ap (λ (x : Maps). after (scheme_of b) x t) e ∙ sym h in
      let (m, f) = traced b a left (after (scheme_of b) s t) (w', e') ts ks in
      ((rw e j, start_laid b left (after (scheme_of b) s t) (w', e'), m), f)

  -- the claims from any start that is a case of `FromValid`
  module _ (From : Start) (valid : (b net : List ℕ) (s : Maps) → Accepted b → From b net s → FromValid b net s) where
    pub traces_match : EveryTrace Calls From
    traces_match b net s ts a f k = (traced b a net s (valid b net s a f) ts k).0

    pub runs_replayed : RunsReplayed Calls From
    runs_replayed b net s ts a f k =
        subst (λ (x : Maps). Laid (scheme_of b) x (last_bytes net ts)) (all_replayed (scheme_of b) s (turns ts))
        (start_laid b (last_bytes net ts) _ (traced b a net s (valid b net s a f) ts k).1)

    pub view_granted : ViewGranted Calls From
    view_granted b net s ts v u o answer written left a f k x y z d =
        let (w, e) = (traced b a net s (valid b net s a f) ts k).1 in
        view_next (scheme_of b) s (turns ts) v u o answer x y z written
        (rw e (called b a (last_bytes net ts) _ left w (sound b (last_bytes net ts) _ left d)).0)

    pub items_unseen : ItemsUnseen Calls From
    items_unseen b u net net' s ts ts' a f f' k k' d =
        let c : Scheme = scheme_of b in
        let (m, e) = traced b a net s (valid b net s a f) ts k in
        let (m', e') = traced b a net' s (valid b net' s a f') ts' k' in
        let (p, q) = unseen c u s s (apart_refl c u s) (turns ts) (turns ts') (matches_runs c s ts m) (matches_runs c s ts' m') d in
        (p, laid_apart c u _ _ (last_bytes net ts) (last_bytes net' ts') q (start_laid b (last_bytes net ts) _ e) (start_laid b (last_bytes net' ts') _ e'))

  -- the first of them, with the maps put in
  pub every_trace : (b net : List ℕ) (ts : Trace) → Accepted b → Fresh b net → Happens Calls b net ts → Matches (scheme_of b) (fresh (scheme_of b)) ts
  every_trace b net ts a l k = traces_match FromFresh fresh_start b net (fresh (scheme_of b)) ts a (l, refl) k

  pub every_trace_from : (b net : List ℕ) (ts : Trace) → Accepted b → Valid (scheme_of b) net → Happens Calls b net ts
      → Matches (scheme_of b) (held (scheme_of b) net) ts
  every_trace_from b net ts a w k = traces_match FromValid valid_start b net (held (scheme_of b) net) ts a (w, refl) k
