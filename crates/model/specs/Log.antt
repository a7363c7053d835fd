-- A log's records (docs/reference.md, "The log").
use Rattle.std.specs.Prelude.{ℕ, ◌+◌, ◌≤◌, ◌≡◌, List, [], ◌∷◌, length}
use Rattle.model.specs.Answers.{Requirement, Answers}
use Rattle.model.specs.Bytes.{byte, two, RecordAt}
use Rattle.model.specs.Requests.{Request, event, set_policy, find, list, view}

-- what the log reader says
pub data Outcome : Type 0 where
  -- the log has ended
  ended : Outcome
  -- the next record is refused, with this number
  refused : (number : ℕ) → Outcome
  -- the next record holds this request
  request : (q : Request) → Outcome

module _ (log : List ℕ) where
  -- no bytes are left at the place, or it is beyond the log's end
  abbrev pub Ended : ℕ → Type 0
  Ended k = length log ≤ k

  -- the reader's place afterwards: past the record for a request; at the end, and after a 14, unchanged
  abbrev pub place_after : ℕ → Outcome → ℕ
  place_after k ended = k
  place_after k (refused number) = k
  place_after k (request q) = k + 4 + two log k

-- how many places a list is lent does not stand in the log
module _ (log : List ℕ) (lent : ℕ) where
  -- at k stands a record with this request
  abbrev pub RequestAt : ℕ → Request → Type 0
  RequestAt k (event v u a) = RecordAt log k 16 5 × (two log (k + 4) ≡ v) × (two log (k + 6) ≡ u) × (byte log (k + 8) ≡ a)
  RequestAt k (set_policy u r p) = RecordAt log k 17 4 × (two log (k + 4) ≡ u) × (byte log (k + 6) ≡ r) × (byte log (k + 7) ≡ p)
  RequestAt k (find v u) = RecordAt log k 18 4 × (two log (k + 4) ≡ v) × (two log (k + 6) ≡ u)
  RequestAt k (list v u places) = RecordAt log k 19 4 × (two log (k + 4) ≡ v) × (two log (k + 6) ≡ u) × (lent ≡ places)
  RequestAt k (view v u o) = RecordAt log k 20 5 × (two log (k + 4) ≡ v) × (two log (k + 6) ≡ u) × (byte log (k + 8) ≡ o)

  -- the next record, where the log has not ended: 14 if it is cut, of another kind, or of a wrong length
  abbrev pub record_needs : ℕ → List Requirement
  record_needs k = (14, (q : Request) × RequestAt k q) ∷ []

  -- what the reader says at k
  abbrev pub NextAt : ℕ → Outcome → Type 0
  NextAt k ended = Ended log k
  NextAt k (refused number) = (Ended log k → ⊥) × Answers (record_needs k) number × (1 ≤ number)
  NextAt k (request q) = (Ended log k → ⊥) × RequestAt k q
