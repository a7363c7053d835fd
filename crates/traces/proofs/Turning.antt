-- One turn of a run, as a trace.
use Prim.Native.Nat.{ℕ, ◌+◌, ◌*◌, ◌<◌, ◌≤◌}
use mathlib.Core.Path.{◌≡◌, refl, sym, ◌∙◌, ap}
use mathlib.Core.List.{List, [], ◌∷◌, ◌++◌}
use native.Mathlib.Omega.{arith}
use native.Mathlib.Numerals.{add-one}
use lib.ListN.{length, take, drop, set}
use lib.Seq.{take-suc-set, drop-set-lt, get_or-set_same, get_or-set_other}
use Rattle.std.specs.Prelude.{Result, Ok, Err}
use Rattle.std.specs.Result.{result_unwrap_or}
use Rattle.refusals.specs.Numbers.{answer_of, count_of}
use Rattle.refusals.specs.declared.Refusal.{Refusal}
use Rattle.model.specs.Requests.{Request, Turn}
use Rattle.model.specs.Machine.{requests}
use Rattle.model.specs.Traces.{Trace, turns, last_bytes, Happens}
use Rattle.model.proofs.Tracing.{every_trace, every_trace_from}
use Rattle.model.proofs.Leaving.{drop_more}
use Rattle.claims.specs.Cite.{CallMade}
use Rattle.encoded.specs.Encoded.{request_at, places_of, Turned}
use Rattle.traces.specs.Ran.{asked, lists_of, answers_of, written_of, Kept, Ran}
use Rattle.claims.proofs.Sound.{sound}
use Rattle.traces.proofs.Refusing.{all_refused}
use Rattle.traces.proofs.Rows.{lists_written, place_kept}

happens_then : (b net : List ℕ) (ts : Trace) (t : Turn) (after : List ℕ) → Happens CallMade b net ts → CallMade b (last_bytes net ts) t after
    → Happens CallMade b net (ts ++ (t, after) ∷ [])
happens_then b net [] t after h c = (c, tt)
happens_then b net ((t', left) ∷ ts) t after (c', h) c = (c', happens_then b left ts t after h c)

last_then : (net : List ℕ) (ts : Trace) (t : Turn) (after : List ℕ) → last_bytes net (ts ++ (t, after) ∷ []) ≡ after
last_then net [] t after = refl
last_then net ((t', left) ∷ ts) t after = last_then left ts t after

requests_then : (ts : Trace) (t : Turn) (after : List ℕ) → requests (turns (ts ++ (t, after) ∷ [])) ≡ requests (turns ts) ++ t.request ∷ []
requests_then [] t after = refl
requests_then ((t', left) ∷ ts) t after = ap {B = List Request} (λ l. t'.request ∷ l) (requests_then ts t after)

answers_then : (ts : Trace) (t : Turn) (after : List ℕ) → answers_of (turns (ts ++ (t, after) ∷ [])) ≡ answers_of (turns ts) ++ t.answer ∷ []
answers_then [] t after = refl
answers_then ((t', left) ∷ ts) t after = ap {B = List ℕ} (λ l. t'.answer ∷ l) (answers_then ts t after)

written_then : (ts : Trace) (t : Turn) (after : List ℕ) → written_of (turns (ts ++ (t, after) ∷ [])) ≡ written_of (turns ts) ++ t.written ∷ []
written_then [] t after = refl
written_then ((t', left) ∷ ts) t after = ap {B = List (List ℕ)} (λ l. t'.written ∷ l) (written_then ts t after)

-- the number answered and the count, as they are stored
counted : (told : Result ℕ Refusal) → result_unwrap_or told 0 ≡ count_of told
counted (Ok count) = refl
counted (Err refusal) = refl

pub stored : (b net encoded : List ℕ) (n : ℕ) (lists left after : List ℕ) {k count : ℕ} (told : Result ℕ Refusal) → k ≡ answer_of told → count ≡ result_unwrap_or told 0
    → Turned b net encoded n lists (answer_of told) (count_of told) left after
    → Turned b net encoded n lists k count left after
stored b net encoded n lists left after told e f h = rw (e, f ∙ counted told) h

-- what n turns have done
pub record SoFar (b before encoded : List ℕ) (n : ℕ) (answers counts lists net : List ℕ) : Type 0 where
  pub trace : Trace
  pub asked_of : requests (turns trace) ≡ asked encoded n
  pub answered : answers_of (turns trace) ≡ take n answers
  pub written : written_of (turns trace) ≡ lists_of counts lists n
  pub bytes : last_bytes before trace ≡ net
  pub happened : Happens CallMade b before trace

pub start : (b before encoded answers counts lists : List ℕ) → SoFar b before encoded 0 answers counts lists before
unfolding asked lists_of
start b before encoded answers counts lists =
    record { trace = []; asked_of = refl; answered = refl; written = refl; bytes = refl; happened = tt }

pub start_kept : (answers counts lists : List ℕ) → Kept 0 answers counts lists answers counts lists
start_kept answers counts lists = record { answers_kept = refl; counts_kept = refl; places_kept = λ k out. refl }

module _ (b before encoded answers counts lists net : List ℕ) (n : ℕ) where
  pub then : (k count : ℕ) (left after : List ℕ) → n < length answers → n < length counts → 256 * n ≤ length lists → length left ≡ length lists
      → SoFar b before encoded n answers counts lists net
      → Turned b net encoded n lists k count left after
      → SoFar b before encoded (n + 1) (set answers n k) (set counts n count) left after
  unfolding asked
  then k count left after a c l m s (h, e, f) =
      let t : Turn = record { request = request_at encoded n; answer = k; written = take count (places_of left n) } in
      rw add-one
      (record {
        trace = s.trace ++ (t, after) ∷ [];
        asked_of = requests_then s.trace t after ∙ ap {B = List Request} (λ r. r ++ t.request ∷ []) s.asked_of;
        answered = answers_then s.trace t after ∙ rw s.answered (sym (take-suc-set answers n k a));
        written = written_then s.trace t after ∙ rw s.written (sym (lists_written counts lists left n count c l m e));
        bytes = last_then before s.trace t after;
        happened = happens_then b before s.trace t after s.happened (rw s.bytes h);
      })

-- a turn writes one answer, one count and one list
pub then_kept : (n k count : ℕ) (answers₀ counts₀ lists₀ answers counts lists left : List ℕ) → n < length counts
    → Kept n answers₀ counts₀ lists₀ answers counts lists
    → take (256 * n) left ≡ take (256 * n) lists
    → drop (256 * n + count) left ≡ drop (256 * n + count) lists
    → Kept (n + 1) answers₀ counts₀ lists₀ (set answers n k) (set counts n count) left
then_kept n k count answers₀ counts₀ lists₀ answers counts lists left c s e f = record {
  answers_kept = drop-set-lt (n + 1) answers n k (omega arith) ∙ drop_more answers₀ answers n s.answers_kept;
  counts_kept = drop-set-lt (n + 1) counts n count (omega arith) ∙ drop_more counts₀ counts n s.counts_kept;
  places_kept = λ i out.
      place_kept lists left n count i (λ p. rw (get_or-set_same counts n count 0 c) at (out n (omega arith) p)) e f
      ∙ s.places_kept i (λ m b p. rw (get_or-set_other counts n m count 0 (λ q. omega arith)) at (out m (omega arith) p));
}

pub ended_kept : (n total : ℕ) (answers₀ counts₀ lists₀ answers counts lists : List ℕ) → n ≡ total → Kept n answers₀ counts₀ lists₀ answers counts lists
    → Kept total answers₀ counts₀ lists₀ answers counts lists
ended_kept n total answers₀ counts₀ lists₀ answers counts lists e k = rw e at k

pub ended : (b before encoded answers counts lists net : List ℕ) (n total : ℕ) → n ≡ total → SoFar b before encoded n answers counts lists net
    → Ran b before encoded total answers counts lists net
ended b before encoded answers counts lists net n total e s = rw (← e) (record {
  trace = s.trace;
  asked_of = s.asked_of;
  answered = s.answered;
  written = s.written;
  bytes = s.bytes;
  happened = s.happened;
  from_fresh = λ a f. every_trace CallMade sound b before s.trace a f s.happened;
  from_valid = λ a v. every_trace_from CallMade sound b before s.trace a v s.happened;
  refused = λ k n r. all_refused b before s.trace k n r s.happened;
})
