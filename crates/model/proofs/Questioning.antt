-- Many views in one call: one result, a list of single views, and the example.
use Prim.Native.Nat.{ℕ, zero, suc, ◌+◌, ◌*◌}
use mathlib.Core.Path.{◌≡◌, refl, sym, ◌∙◌, ap}
use mathlib.Core.Bool.{Bool, true, ◌&&◌}
use mathlib.Core.List.{List, [], ◌∷◌, ◌++◌, map}
use mathlib.Core.Logic.{inl, inr}
use native.Mathlib.Omega.{arith}
use native.Mathlib.Decide.{ℕ_discrete}
use lib.Dec.{ltb, eqb}
use borrow.Author.Tests.{eqb-true}
use lib.ListN.{get_or, drop}
use Rattle.std.specs.List.{AllZip}
use Rattle.model.specs.Answers.{Answers}
use Rattle.model.specs.Bytes.{bit}
use Rattle.model.specs.Graph.{count}
use Rattle.model.specs.SchemeBytes.{policies, scheme_of, scheme_needs, Accepted}
use Rattle.model.specs.Network.{Maps, Laid, held, Valid, pair_place, world}
use Rattle.model.specs.Requests.{Turn, view, needs, those, answered, granted}
use Rattle.model.specs.Calls.{open_needs, Called}
use Rattle.model.specs.Questions.{Question, FilledIn, ViewsLeft}
use Rattle.model.specs.Standard.{standard, standard_bytes}
use Rattle.model.specs.Traces.{Trace, Happens, Matches}
use Rattle.model.specs.Examples.{four, four_bytes, Asking, before, after, askings, Viewings}
use Rattle.model.proofs.Answering.{answers_unique, granted_met, behind}
use Rattle.model.proofs.Computing.{some, every, among, is_within, friend_of_all, all_friends, some_list, is_clique, on_side, admits, stands, begins, goes, reached, closed, found, sure, finds, allows, first, tests, asks}
use Rattle.model.proofs.Deciding.{is_true, is_lt, conj, every_holds}
use Rattle.model.proofs.Held.{held_state, held_setting}
use Rattle.model.proofs.Judging.{judged}
use Rattle.model.proofs.Places.{pair_before}
use Rattle.model.proofs.Tracing.{every_trace_from}
use Rattle.model.proofs.StandardRead.{standard_accepted}
use Rattle.model.proofs.Once.{called_once}

-- ---- one result

same_question : (q r : Question) → q.viewer ≡ r.viewer → q.owner ≡ r.owner → q.item ≡ r.item → q.answer ≡ r.answer → q ≡ r
same_question q r a b c d = λ i. record { viewer = a i; owner = b i; item = c i; answer = d i }

filled_once : (b net : List ℕ) (q x y : Question) → FilledIn b net q x → FilledIn b net q y → x ≡ y
filled_once b net q x y f g =
    same_question x y (f.viewer ∙ sym g.viewer) (f.owner ∙ sym g.owner) (f.item ∙ sym g.item)
    (ap (λ (t : Turn). t.answer) (called_once b net _ _ net net f.viewed g.viewed refl).0)

all_filled_once : (b net : List ℕ) (qs xs ys : List Question) → AllZip (FilledIn b net) qs xs → AllZip (FilledIn b net) qs ys → xs ≡ ys
all_filled_once b net [] [] [] f g = refl
all_filled_once b net [] [] (y ∷ ys) f g = absurd g
all_filled_once b net [] (x ∷ xs) ys f g = absurd f
all_filled_once b net (q ∷ qs) [] ys f g = absurd f
all_filled_once b net (q ∷ qs) (x ∷ xs) [] f g = absurd g
all_filled_once b net (q ∷ qs) (x ∷ xs) (y ∷ ys) (f, fs) (g, gs) =
    λ i. filled_once b net q x y f g i ∷ all_filled_once b net qs xs ys fs gs i

-- equal inputs leave no two results
pub views_once : (b net : List ℕ) (qs xs ys : List Question) (k l : ℕ) → ViewsLeft b net qs k xs → ViewsLeft b net qs l ys → (k ≡ l) × (xs ≡ ys)
views_once b net qs xs ys k l f g =
    let e : k ≡ l = answers_unique (open_needs b net) k l f.answered g.answered in
    (e, same (ℕ_discrete k 0) e)
  where
    same : Dec (k ≡ 0) → k ≡ l → xs ≡ ys
    same (yes z) e = all_filled_once b net qs xs ys (f.filled_in z) (g.filled_in (sym e ∙ z))
    same (no n) e = f.kept n ∙ sym (g.kept (λ z. n (e ∙ z)))

-- ---- a list of single views, of which the claims about lists of calls speak

-- the questions as views, each on the same network
pub views_of : List ℕ → List Question → Trace
views_of net [] = []
views_of net (q ∷ qs) = (answered (view q.viewer q.owner q.item) q.answer, net) ∷ views_of net qs

all_happen : (b net : List ℕ) (qs xs : List Question) → AllZip (FilledIn b net) qs xs → Happens Called b net (views_of net xs)
unfolding views_of
all_happen b net [] [] f = tt
all_happen b net [] (x ∷ xs) f = absurd f
all_happen b net (q ∷ qs) [] f = absurd f
all_happen b net (q ∷ qs) (x ∷ xs) (f, fs) = (rw (f.viewer, f.owner, f.item) f.viewed, all_happen b net qs xs fs)

pub views_happen : (b net : List ℕ) (qs xs : List Question) → ViewsLeft b net qs 0 xs → Happens Called b net (views_of net xs)
views_happen b net qs xs l = all_happen b net qs xs (l.filled_in refl)

-- so each is answered as the plain machine answers it, on the maps that the bytes hold
pub views_match : (b net : List ℕ) (qs xs : List Question) → Accepted b → Valid (scheme_of b) net → ViewsLeft b net qs 0 xs
    → Matches (scheme_of b) (held (scheme_of b) net) (views_of net xs)
views_match b net qs xs a w l = every_trace_from Called (λ b net t after c. c) b net (views_of net xs) a w (views_happen b net qs xs l)

-- ---- the example

abbrev bytes : List ℕ
bytes = standard_bytes 4

abbrev four_read : Maps
four_read = held (scheme_of bytes) four_bytes

-- the bytes of the four are its maps
pairs_laid : every (λ j. every (λ i. eqb (get_or four_bytes (pair_place i j) 0) (four.pair i j)) j) 4 ≡ true
unfolding every
pairs_laid = refl

settings_laid : every (λ m. every (λ r. eqb (get_or four_bytes (6 + (m * 9 + r)) 0) (four.setting m r)) 9) 4 ≡ true
unfolding every
settings_laid = refl

four_laid : Laid (standard 4) four four_bytes
four_laid = record {
  sized = refl;
  states = λ i j a b. eqb-true _ _ (every_holds _ j (every_holds _ 4 pairs_laid j b) i a);
  settings = λ m r a b. eqb-true _ _ (every_holds _ 9 (every_holds _ 4 settings_laid m a) r b);
}

-- and every byte is as its kind asks
states_fit : every (λ k. ltb (get_or four_bytes k 0) (scheme_of bytes).states) 6 ≡ true
unfolding every
states_fit = refl

settings_fit : every (λ m. every (λ r. bit ((scheme_of bytes).mask r) (get_or four_bytes (6 + (m * 9 + r)) 0)) 9) 4 ≡ true
unfolding every
settings_fit = refl

four_valid : Valid (scheme_of bytes) four_bytes
four_valid = record {
  sized = refl;
  fits = record {
    states = λ i j a b.
        let e = held_state (scheme_of bytes) four_bytes i j a b in
        rw e ((is_lt _ _).yes_if (every_holds _ 6 states_fit (pair_place i j) (pair_before i j 4 a b)));
    settings = λ m r a b.
        let e = held_setting (scheme_of bytes) four_bytes m r a b in
        rw e (every_holds _ 9 (every_holds _ 4 settings_fit m a) r b);
  };
}

four_accepted : Accepted bytes
four_accepted = standard_accepted 4 (omega arith) (omega arith)

-- a view of the four with this answer
viewed : (v u o k : ℕ) → Answers (needs (scheme_of bytes) four_read (view v u o)) k → Called bytes four_bytes (answered (view v u o) k) four_bytes
viewed v u o k a = record {
  answered = behind (scheme_needs bytes) ((5, Valid (scheme_of bytes) four_bytes) ∷ needs (scheme_of bytes) four_read (view v u o)) k (granted_met (scheme_needs bytes) (omega arith) four_accepted) (inr (four_valid, a));
  wrote = nothing k;
  bytes = unchanged k;
}
  where
    none : List ℕ
    none = []

    nothing : (k : ℕ) → none ≡ granted k none none
    nothing zero = refl
    nothing (suc k) = refl

    unchanged : (k : ℕ) → four_bytes ≡ granted k four_bytes four_bytes
    unchanged zero = refl
    unchanged (suc k) = refl

-- the computed answers
answer : List Asking → List Asking
answer [] = []
answer ((v, u, o, was, k) ∷ l) = (v, u, o, was, first (tests (scheme_of bytes) four_read (view v u o))) ∷ answer l

all_sure : List Asking → Bool
all_sure [] = true
all_sure ((v, u, o, was, k) ∷ l) = sure (world (scheme_of bytes) four_read) (asks (view v u o)) && all_sure l

all_viewed : (l : List Asking) → all_sure l ≡ true → AllZip (FilledIn bytes four_bytes) (map before l) (map after (answer l))
unfolding answer all_sure
all_viewed [] e = tt
all_viewed ((v, u, o, was, k) ∷ l) e =
    let (s, rest) = (conj (is_true (sure (world (scheme_of bytes) four_read) (asks (view v u o)))) (is_true (all_sure l))).yes_if e in
    (record { viewer = refl; owner = refl; item = refl; viewed = viewed v u o _ (judged (scheme_of bytes) four_read (view v u o) s) }, all_viewed l rest)

askings_sure : all_sure askings ≡ true
unfolding all_sure held policies some every among is_within friend_of_all all_friends some_list is_clique on_side admits stands begins goes reached closed found sure count those
askings_sure = refl

askings_answered : answer askings ≡ askings
unfolding answer held policies some every among is_within friend_of_all all_friends some_list is_clique on_side admits stands begins goes reached closed found finds allows first count those
askings_answered = refl

pub viewings : Viewings
viewings = record {
  laid = four_laid;
  filled_in = record {
    answered = opened;
    filled_in = λ z. rw askings_answered at (all_viewed askings askings_sure);
    kept = λ n. absurd (n refl);
  };
  empty = record { answered = opened; filled_in = λ z. tt; kept = λ n. refl };
  long_network = record {
    answered = behind (scheme_needs bytes) ((5, Valid (scheme_of bytes) (four_bytes ++ 0 ∷ [])) ∷ []) 5 (granted_met (scheme_needs bytes) (omega arith) four_accepted) (inl (λ f. omega (arith, f.sized), refl));
    filled_in = λ z. absurd (omega (arith, z));
    kept = λ n. refl;
  };
  byte_off = record {
    answered =
        behind (scheme_needs bytes) ((5, Valid (scheme_of bytes) (4 ∷ drop 1 four_bytes)) ∷ []) 5
        (granted_met (scheme_needs bytes) (omega arith) four_accepted)
        (inl (λ f. omega (arith, held_state (scheme_of bytes) (4 ∷ drop 1 four_bytes) 0 1 (omega arith) (omega arith), f.fits.states 0 1 (omega arith) (omega arith)), refl));
    filled_in = λ z. absurd (omega (arith, z));
    kept = λ n. refl;
  };
  no_scheme = record {
    answered = inl (λ r. omega (arith, r), refl);
    filled_in = λ z. absurd (omega (arith, z));
    kept = λ n. refl;
  };
}
  where
    opened : Answers (open_needs bytes four_bytes) 0
    opened = behind (scheme_needs bytes) ((5, Valid (scheme_of bytes) four_bytes) ∷ []) 0 (granted_met (scheme_needs bytes) (omega arith) four_accepted) (inr (four_valid, refl))
