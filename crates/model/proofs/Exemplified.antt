-- The small examples, computed.
use Prim.Native.Nat.{ℕ, zero, suc, ◌+◌, ◌*◌, ◌<◌, ◌≤◌}
use mathlib.Core.Path.{◌≡◌, refl, sym, ◌∙◌, ap}
use mathlib.Core.Bool.{Bool, true, false, ◌&&◌, not}
use mathlib.Core.List.{List, [], ◌∷◌, ◌++◌}
use mathlib.Core.Logic.{inl, inr, ⊎_elim}
use native.Mathlib.Omega.{arith}
use borrow.Author.Tests.{eqb-true, ne_eqb}
use lib.Dec.{eqb, leb}
use lib.ListN.{length, get_or, get_or-eq_default}
use Rattle.model.specs.Graph.{Degree, count, shared}
use Rattle.model.specs.Scheme.{lowest_from}
use Rattle.model.specs.Bytes.{byte}
use Rattle.model.specs.SchemeBytes.{scheme_of, Records}
use Rattle.model.specs.Network.{fresh, pair_place, held, world}
use Rattle.model.specs.Requests.{writes, those, put, granted}
use Rattle.model.specs.Suggestions.{Suggestions}
use Rattle.model.specs.Standard.{standard, standard_bytes}
use Rattle.model.specs.Examples.{small, joins, Admission, AllAdmissions, admissions, four, Judgement, AllJudged, judgements, degrees, AllDegrees, acquainted, eight, Suggesting, AllSuggested, suggestings, Effects, fresh_bytes, Layout, sixth, Behind, SixthRecord}
use Rattle.model.proofs.Computing.{some, every, among, is_within, has_degree, friend_of_all, all_friends, some_list, is_clique, on_side, admits, stands, begins, goes, reached, closed, found, sure, finds, allows, first, tests, suggest_tests, asks}
use Rattle.model.proofs.Deciding.{is_true, is_eq, is_lt, is_le, conj, negated, every_holds, is_admitted, Inside}
use Rattle.model.proofs.Places.{pair_before}
use Rattle.model.proofs.Walking.{is_found}
use Rattle.model.proofs.Judging.{judged, suggest_judged, world_inside}
use Rattle.model.proofs.Degrees.{has_degree_lem}
use Rattle.model.proofs.Paging.{insert, enter, page_of}
use Rattle.model.proofs.Suggesting.{earlier, suggestible, suggestions_computed}
use Rattle.model.proofs.StandardRead.{head, counts, records, bytes_fit, strangers_apart, standard_accepted}

small_inside : Inside small
small_inside u m e = ((conj (conj (conj (is_lt u 6) (is_lt m 6)) (negated (is_eq u m))) (is_true (joins u m))).yes_if e).0.0.1

admitted : List Admission → Bool
admitted [] = true
admitted ((p, u, v, true) ∷ l) = admits small p u v && admitted l
admitted ((p, u, v, false) ∷ l) = not (admits small p u v) && admitted l

all_admitted : (l : List Admission) → admitted l ≡ true → AllAdmissions l
unfolding admitted
all_admitted [] e = tt
all_admitted ((p, u, v, true) ∷ l) e =
    let (a, b) = (conj (is_true (admits small p u v)) (is_true (admitted l))).yes_if e in
    ((is_admitted small small_inside p u v).yes_if a, all_admitted l b)
all_admitted ((p, u, v, false) ∷ l) e =
    let (a, b) = (conj (negated (is_admitted small small_inside p u v)) (is_true (admitted l))).yes_if e in
    (a, all_admitted l b)

pub admissions_hold : AllAdmissions admissions
unfolding admitted some among is_within friend_of_all all_friends some_list is_clique on_side admits count
admissions_hold = all_admitted admissions refl

-- the computed judgements of a list of requests
judge : List Judgement → List Judgement
judge [] = []
judge ((q, k, written) ∷ l) =
    let answer = first (tests (standard 4) four q) in
    (q, answer, granted answer (writes (standard 4) four q) []) ∷ judge l

-- each walk came to its end
all_sure : List Judgement → Bool
all_sure [] = true
all_sure ((q, k, written) ∷ l) = sure (world (standard 4) four) (asks q) && all_sure l

all_judged : (l : List Judgement) → all_sure l ≡ true → AllJudged (judge l)
unfolding judge all_sure
all_judged [] e = tt
all_judged ((q, k, written) ∷ l) e =
    let (s, rest) = (conj (is_true (sure (world (standard 4) four) (asks q))) (is_true (all_sure l))).yes_if e in
    (judged (standard 4) four q s, refl, all_judged l rest)

judgements_sure : all_sure judgements ≡ true
unfolding all_sure some every among is_within friend_of_all all_friends some_list is_clique on_side admits stands begins goes reached closed found sure count those
judgements_sure = refl

judgements_computed : judge judgements ≡ judgements
unfolding judge some every among is_within friend_of_all all_friends some_list is_clique on_side admits stands begins goes reached closed found finds allows first count those
judgements_computed = refl

pub judgements_hold : AllJudged judgements
judgements_hold = rw judgements_computed at (all_judged judgements judgements_sure)

degrees_computed : List (ℕ × ℕ × Degree) → Bool
degrees_computed [] = true
degrees_computed ((u, v, d) ∷ rows) = has_degree (world (standard 4) four).graph u v d && degrees_computed rows

all_degrees : (l : List (ℕ × ℕ × Degree)) → degrees_computed l ≡ true → AllDegrees l
unfolding degrees_computed
all_degrees [] e = tt
all_degrees ((u, v, d) ∷ rows) e =
    let (h, rest) = (conj (is_true (has_degree (world (standard 4) four).graph u v d)) (is_true (degrees_computed rows))).yes_if e in
    (has_degree_lem (world (standard 4) four).graph (world_inside (standard 4) four) u v d h, all_degrees rows rest)

pub degrees_hold : AllDegrees degrees
unfolding degrees_computed some is_within has_degree
degrees_hold = all_degrees degrees refl

eight_inside : (group : ℕ) → Inside (eight group).graph
eight_inside group u m e = ((conj (conj (conj (is_lt u 8) (is_lt m 8)) (negated (is_eq u m))) (is_true (acquainted u m))).yes_if e).0.0.1

page : ℕ → ℕ → ℕ → List ℕ
page group v c = page_of (earlier (shared (eight group).graph v)) (suggestible (eight group) v (finds (eight group) v)) 8 c

-- the computed answers and pages
suggest : List Suggesting → List Suggesting
suggest [] = []
suggest ((group, v, c, places, k, written) ∷ l) =
    let answer = first (suggest_tests (eight group) v c places) in
    (group, v, c, places, answer, granted answer (page group v c) []) ∷ suggest l

suggest_sure : List Suggesting → Bool
suggest_sure [] = true
suggest_sure ((group, v, c, places, k, written) ∷ l) = sure (eight group) v && suggest_sure l

all_suggested : (l : List Suggesting) → suggest_sure l ≡ true → AllSuggested (suggest l)
unfolding page suggest suggest_sure
all_suggested [] e = tt
all_suggested ((group, v, c, places, k, written) ∷ l) e =
    let (s, rest) = (conj (is_true (sure (eight group) v)) (is_true (suggest_sure l))).yes_if e in
    (suggest_judged (eight group) v c places, wrote s (first (suggest_tests (eight group) v c places)), all_suggested l rest)
  where
    wrote : sure (eight group) v ≡ true → (k : ℕ) → granted k (Suggestions (eight group) v c (granted k (page group v c) [])) (granted k (page group v c) [] ≡ [])
    wrote s zero = suggestions_computed (eight group) v (is_found (eight group) (eight_inside group) v s) c
    wrote s (suc k) = refl

suggestings_sure : suggest_sure suggestings ≡ true
unfolding suggest_sure some every among admits stands begins goes reached closed found sure those
suggestings_sure = refl

suggestings_computed : suggest suggestings ≡ suggestings
unfolding suggest page some every among admits stands begins goes reached closed found finds first count those earlier insert enter page_of
suggestings_computed = refl

pub suggestings_hold : AllSuggested suggestings
suggestings_hold = rw suggestings_computed at (all_suggested suggestings suggestings_sure)

pub effects : Effects
unfolding put
effects = record {
  invited_by_lesser = refl;
  invited_by_greater = refl;
  other_pair = refl;
  settings_stay = refl;
  chosen = refl;
  other_setting = refl;
  other_member = refl;
  pairs_stay = refl;
}

pairs_fresh : every (λ k. eqb (get_or fresh_bytes k 0) 0) 6 ≡ true
unfolding every
pairs_fresh = refl

settings_fresh : every (λ m. every (λ r. eqb (get_or fresh_bytes (6 + (m * 9 + r)) 0) ((fresh (scheme_of (standard_bytes 4))).setting m r)) 9) 4 ≡ true
unfolding every lowest_from
settings_fresh = refl

pub layout : Layout
unfolding held
layout = record {
  fresh = record {
    sized = refl;
    states = λ i j a b. eqb-true (get_or fresh_bytes (pair_place i j) 0) 0 (every_holds _ 6 pairs_fresh (pair_place i j) (pair_before i j 4 a b));
    settings = λ m r a b. eqb-true (get_or fresh_bytes (6 + (m * 9 + r)) 0) ((fresh (scheme_of (standard_bytes 4))).setting m r) (every_holds _ 9 (every_holds _ 4 settings_fresh m a) r b);
  };
  changed = refl;
}

-- the standard scheme with bytes behind it that are no sixth record is refused with 1
refused_behind : (more : List ℕ) → (Records (standard_bytes 4 ++ more) → ⊥) → Behind more 1
refused_behind more n = inr (head 4 more, inr (counts 4 more (omega arith) (omega arith), inl (n, refl)))

-- and with 3, where one of the sixth record's bytes is neither 0 nor 1
refused_byte : (x y z w m : ℕ) → m < 4 → 2 ≤ byte (standard_bytes 4 ++ sixth 6 4 (x ∷ y ∷ z ∷ w ∷ [])) (154 + m) → Behind (sixth 6 4 (x ∷ y ∷ z ∷ w ∷ [])) 3
refused_byte x y z w m l h =
    let more : List ℕ = sixth 6 4 (x ∷ y ∷ z ∷ w ∷ []) in
    inr
    (head 4 more, inr (counts 4 more (omega arith) (omega arith), inr (records 4 more (inr ((omega arith, refl, refl), omega arith)), inl (λ f. omega (arith, h, f.groups m l), refl))))

abbrev one_group : List ℕ
one_group = sixth 6 4 (0 ∷ 1 ∷ 0 ∷ 0 ∷ [])

sixth_fits : every (λ m. leb (byte (standard_bytes 4 ++ one_group) (154 + m)) 1) 4 ≡ true
unfolding every
sixth_fits = refl

sixth_read : (m : ℕ) → (scheme_of (standard_bytes 4 ++ one_group)).group m ≡ eqb m 1
sixth_read zero = refl
sixth_read (suc zero) = refl
sixth_read (suc (suc zero)) = refl
sixth_read (suc (suc (suc zero))) = refl
sixth_read (suc (suc (suc (suc m)))) =
    let h : length (standard_bytes 4 ++ one_group) ≤ 154 + suc (suc (suc (suc m))) = omega arith in
    ap (λ (x : ℕ). eqb x 1) (get_or-eq_default (standard_bytes 4 ++ one_group) 0 h) ∙ sym (ne_eqb (suc (suc (suc (suc m)))) 1 (λ e. omega (arith, e)))

pub sixth_record : SixthRecord
sixth_record = record {
  none = standard_accepted 4 (omega arith) (omega arith);
  accepted =
      inr (
        head 4 one_group,
        inr (
          counts 4 one_group (omega arith) (omega arith),
          inr (records 4 one_group (inr ((omega arith, refl, refl), omega arith)), inr (bytes_fit 4 one_group fit, inr (strangers_apart 4 one_group, refl))),
        ),
      );
  read = sixth_read;
  wrong_byte = refused_byte 0 2 0 0 1 (omega arith) (omega arith);
  last_byte = refused_byte 0 1 0 2 3 (omega arith) (omega arith);
  other_kind = refused_behind (sixth 7 4 (0 ∷ 1 ∷ 0 ∷ 0 ∷ [])) (λ r. ⊎_elim (λ e. omega arith) (λ e. omega arith) r.groups);
  short = refused_behind (sixth 6 3 (0 ∷ 1 ∷ 0 ∷ [])) (λ r. ⊎_elim (λ e. omega arith) (λ e. omega arith) r.groups);
  long = refused_behind (sixth 6 5 (0 ∷ 1 ∷ 0 ∷ 0 ∷ 0 ∷ [])) (λ r. ⊎_elim (λ e. omega arith) (λ e. omega arith) r.groups);
  cut = refused_behind (sixth 6 4 (0 ∷ 1 ∷ 0 ∷ [])) (λ r. ⊎_elim (λ e. omega arith) (λ e. omega arith) r.groups);
  cut_head = refused_behind (4 ∷ 0 ∷ 6 ∷ []) (λ r. ⊎_elim (λ e. omega arith) (λ e. omega arith) r.groups);
  followed = refused_behind (sixth 6 4 (0 ∷ 1 ∷ 0 ∷ 0 ∷ 0 ∷ [])) (λ r. ⊎_elim (λ e. omega arith) (λ e. omega arith) r.groups);
  twice = refused_behind (one_group ++ one_group) (λ r. ⊎_elim (λ e. omega arith) (λ e. omega arith) r.groups);
}
  where
    fit : (m : ℕ) → m < 4 → byte (standard_bytes 4 ++ one_group) (154 + m) ≤ 1
    fit m h = (is_le _ 1).yes_if (every_holds _ 4 sixth_fits m h)
