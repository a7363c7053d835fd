-- A run over encoded requests.
use Rattle.std.specs.Prelude.{ℕ, zero, suc, ◌+◌, ◌*◌, ◌/◌, ◌<◌, ◌≤◌, min, ◌≡◌, List, [], ◌∷◌, ◌++◌, length, get_or, take, drop}
use Rattle.model.specs.Answers.{Answers}
use Rattle.model.specs.SchemeBytes.{scheme_of, Accepted}
use Rattle.model.specs.Network.{fresh, held, Valid}
use Rattle.model.specs.Requests.{Request, Turn}
use Rattle.model.specs.Calls.{Fresh, open_needs}
use Rattle.model.specs.Machine.{requests}
use Rattle.model.specs.Traces.{Trace, turns, last_bytes, Matches, Happens}
use Rattle.claims.specs.Cite.{CallMade}
use Rattle.encoded.specs.Encoded.{request_at, places_of}

-- the first n requests
unfoldable pub asked : List ℕ → ℕ → List Request
asked l zero = []
asked l (suc n) = asked l n ++ request_at l n ∷ []

-- the first n lists: each stands at the front of its places, as many as counted
unfoldable pub lists_of : List ℕ → List ℕ → ℕ → List (List ℕ)
lists_of counts lists zero = []
lists_of counts lists (suc n) = lists_of counts lists n ++ take (get_or counts n 0) (places_of lists n) ∷ []

abbrev pub answers_of : List Turn → List ℕ
answers_of [] = []
answers_of (t ∷ ts) = t.answer ∷ answers_of ts

abbrev pub written_of : List Turn → List (List ℕ)
written_of [] = []
written_of (t ∷ ts) = t.written ∷ written_of ts

-- for how many requests there is room
abbrev pub fitting : List ℕ → List ℕ → List ℕ → List ℕ → ℕ
fitting encoded answers counts lists = min (min (length encoded / 4) (length answers)) (min (length counts) (length lists / 256))

-- every turn is refused with number k, writes nothing and leaves the network as it was
abbrev pub AllRefused : ℕ → List ℕ → Trace → Type 0
AllRefused k net [] = Unit {0}
AllRefused k net ((t, after) ∷ ts) = (t.answer ≡ k) × (t.written ≡ []) × (after ≡ net) × AllRefused k net ts

-- behind the nth answer and count nothing is written, nor in a place outside the lists
pub record Kept (n : ℕ) (answers counts lists answers' counts' lists' : List ℕ) : Type 0 where
  pub answers_kept : drop n answers' ≡ drop n answers
  pub counts_kept : drop n counts' ≡ drop n counts
  pub places_kept : (k : ℕ) → ((m : ℕ) → m < n → 256 * m ≤ k → 256 * m + get_or counts' m 0 ≤ k) → get_or lists' k 0 ≡ get_or lists k 0

-- n encoded requests were called: answers, lists and network are the plain machine's, or all one refusal's
pub record Ran (b before encoded : List ℕ) (n : ℕ) (answers counts lists net : List ℕ) : Type 0 where
  pub trace : Trace
  pub asked_of : requests (turns trace) ≡ asked encoded n
  pub answered : answers_of (turns trace) ≡ take n answers
  pub written : written_of (turns trace) ≡ lists_of counts lists n
  pub bytes : last_bytes before trace ≡ net
  pub happened : Happens CallMade b before trace
  pub from_fresh : Accepted b → Fresh b before → Matches (scheme_of b) (fresh (scheme_of b)) trace
  pub from_valid : Accepted b → Valid (scheme_of b) before → Matches (scheme_of b) (held (scheme_of b) before) trace
  pub refused : (k : ℕ) → (k ≡ 0 → ⊥) → Answers (open_needs b before) k → AllRefused k before trace
