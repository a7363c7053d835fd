-- The next record of a log: there is one outcome, and no other; and the example logs, read.
use Prim.Native.Nat.{ℕ, ◌+◌, ◌<◌, ◌≤◌}
use mathlib.Core.Path.{◌≡◌, refl, sym, ap, ◌∙◌}
use mathlib.Core.Bool.{Bool, true, false, cond, ◌&&◌}
use mathlib.Core.List.{List, [], ◌∷◌}
use mathlib.Core.Logic.{inl, inr}
use native.Mathlib.Omega.{arith}
use lib.Dec.{eqb, leb}
use lib.ListN.{length}
use Rattle.model.specs.Bytes.{byte, two, RecordAt}
use Rattle.model.specs.Requests.{Request, event, set_policy, find, list, view}
use Rattle.model.specs.Log.{Outcome, ended, refused, request, Ended, RequestAt, record_needs, NextAt, place_after}
use Rattle.model.specs.Examples.{Reading, AllRead, readings}
use Rattle.model.proofs.Answering.{answers_unique}
use Rattle.model.proofs.Deciding.{Says, conj, iff, is_eq, is_le}

-- no whole record of kind 16 to 20 and of its kind's length stands at k
abbrev pub NoRecord : List ℕ → ℕ → Type 0
NoRecord log k =
    (RecordAt log k 16 5 → ⊥)
    × (RecordAt log k 17 4 → ⊥)
    × (RecordAt log k 18 4 → ⊥)
    × (RecordAt log k 19 4 → ⊥)
    × (RecordAt log k 20 5 → ⊥)

module _ (log : List ℕ) (lent k : ℕ) where
  no_request : NoRecord log k → (q : Request) → RequestAt log lent k q → ⊥
  no_request none (event v u a) h = none.0 h.0
  no_request none (set_policy u r p) h = none.1 h.0
  no_request none (find v u) h = none.2 h.0
  no_request none (list v u places) h = none.3 h.0
  no_request none (view v u o) h = none.4 h.0

  pub refuses : (Ended log k → ⊥) → NoRecord log k → NextAt log lent k (refused 14)
  refuses more none = (more, inl ((λ h. no_request none h.0 h.1), refl), omega arith)

  -- a record stands within the log
  pub within : (q : Request) → RequestAt log lent k q → (k < place_after log k (request q)) × (place_after log k (request q) ≤ length log)
  within (event v u a) h = (omega arith, omega (arith, h.0.0, h.0.1))
  within (set_policy u r p) h = (omega arith, omega (arith, h.0.0, h.0.1))
  within (find v u) h = (omega arith, omega (arith, h.0.0, h.0.1))
  within (list v u places) h = (omega arith, omega (arith, h.0.0, h.0.1))
  within (view v u o) h = (omega arith, omega (arith, h.0.0, h.0.1))

  -- the request of a record of this kind
  abbrev of_kind : ℕ → Request
  of_kind kind =
      cond (eqb kind 16) (event (two log (k + 4)) (two log (k + 6)) (byte log (k + 8)))
      (cond (eqb kind 17) (set_policy (two log (k + 4)) (byte log (k + 6)) (byte log (k + 7)))
      (cond (eqb kind 18) (find (two log (k + 4)) (two log (k + 6)))
      (cond (eqb kind 19) (list (two log (k + 4)) (two log (k + 6)) lent)
      (view (two log (k + 4)) (two log (k + 6)) (byte log (k + 8))))))

  of_its_kind : (q : Request) → RequestAt log lent k q → of_kind (two log (k + 2)) ≡ q
  of_its_kind (event v u a) h = ap of_kind h.0.2 ∙ (λ i. event (h.1 i) (h.2 i) (h.3 i))
  of_its_kind (set_policy u r p) h = ap of_kind h.0.2 ∙ (λ i. set_policy (h.1 i) (h.2 i) (h.3 i))
  of_its_kind (find v u) h = ap of_kind h.0.2 ∙ (λ i. find (h.1 i) (h.2 i))
  of_its_kind (list v u places) h = ap of_kind h.0.2 ∙ (λ i. list (h.1 i) (h.2 i) (h.3 i))
  of_its_kind (view v u o) h = ap of_kind h.0.2 ∙ (λ i. view (h.1 i) (h.2 i) (h.3 i))

  -- where a request stands, the record is not refused
  not_refused : (number : ℕ) (q : Request) → NextAt log lent k (refused number) → RequestAt log lent k q → ⊥
  not_refused number q (more, inl (none, e), least) h = none (q, h)
  not_refused number q (more, inr (met, e), least) h = omega (arith, e)

  -- there is at most one outcome
  pub next_once : (a b : Outcome) → NextAt log lent k a → NextAt log lent k b → a ≡ b
  next_once ended ended s t = refl
  next_once ended (refused number) s t = absurd (t.0 s)
  next_once ended (request q) s t = absurd (t.0 s)
  next_once (refused number) ended s t = absurd (s.0 t)
  next_once (refused number) (refused other) s t = ap refused (answers_unique (record_needs log lent k) number other s.1 t.1)
  next_once (refused number) (request q) s t = absurd (not_refused number q s t.1)
  next_once (request q) ended s t = absurd (s.0 t)
  next_once (request q) (refused number) s t = absurd (not_refused number q t s.1)
  next_once (request q) (request other) s t = ap request (sym (of_its_kind q s.1) ∙ of_its_kind other t.1)

  -- and there is one, computed
  unfoldable pub is_record : ℕ → ℕ → Bool
  is_record kind size = leb (k + 4 + size) (length log) && (eqb (two log k) size && eqb (two log (k + 2)) kind)

  is_record_lem : (kind size : ℕ) → Says (is_record kind size) (RecordAt log k kind size)
  unfolding is_record
  is_record_lem kind size =
      iff (λ h. (h.0, h.1.0, h.1.1)) (λ h. (h.0, (h.1, h.2)))
      (conj (is_le (k + 4 + size) (length log)) (conj (is_eq (two log k) size) (is_eq (two log (k + 2)) kind)))

  unfoldable pub next_outcome : Outcome
  next_outcome =
      cond (leb (length log) k) ended
      (cond (is_record 16 5) (request (of_kind 16))
      (cond (is_record 17 4) (request (of_kind 17))
      (cond (is_record 18 4) (request (of_kind 18))
      (cond (is_record 19 4) (request (of_kind 19))
      (cond (is_record 20 5) (request (of_kind 20)) (refused 14))))))

  either_way : {b : Bool} {P : Type 0} → Says b P → (x y : Outcome) → (P → NextAt log lent k x) → ((P → ⊥) → NextAt log lent k y) → NextAt log lent k (cond b x y)
  either_way {b} {P} d x y there missing = go b d.yes_if d.no_if
    where
      go : (t : Bool) → (t ≡ true → P) → (t ≡ false → P → ⊥) → NextAt log lent k (cond t x y)
      go true is isnt = there (is refl)
      go false is isnt = missing (isnt refl)

  pub next_is : NextAt log lent k next_outcome
  unfolding next_outcome
  next_is =
      either_way (is_le (length log) k) _ _ (λ e. e) (λ more.
      either_way (is_record_lem 16 5) _ _ (λ h. (more, (h, refl, refl, refl))) (λ no-event.
      either_way (is_record_lem 17 4) _ _ (λ h. (more, (h, refl, refl, refl))) (λ no-set.
      either_way (is_record_lem 18 4) _ _ (λ h. (more, (h, refl, refl))) (λ no-find.
      either_way (is_record_lem 19 4) _ _ (λ h. (more, (h, refl, refl, refl))) (λ no-list.
      either_way (is_record_lem 20 5) _ _ (λ h. (more, (h, refl, refl, refl))) (λ no-view.
      refuses more (no-event, no-set, no-find, no-list, no-view)))))))

-- the example logs, read
compute : List Reading → List Reading
compute [] = []
compute ((b, place, says, after) ∷ rows) = (b, place, next_outcome b 256 place, place_after b place (next_outcome b 256 place)) ∷ compute rows

all_read : (rows : List Reading) → AllRead (compute rows)
unfolding compute
all_read [] = tt
all_read ((b, place, says, after) ∷ rows) = (next_is b 256 place, refl, all_read rows)

computed : compute readings ≡ readings
unfolding compute next_outcome is_record
computed = refl

pub readings_hold : AllRead readings
readings_hold = rw computed at (all_read readings)
