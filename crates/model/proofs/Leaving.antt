-- What a call leaves: one result, and nothing in the output but for a list.
use Prim.Native.Nat.{ℕ, zero, suc, ◌+◌, ◌<◌}
use mathlib.Core.Path.{◌≡◌, refl, sym, ◌∙◌, ap, ap₂}
use mathlib.Core.List.{List, [], ◌++◌}
use native.Mathlib.Omega.{arith}
use native.Mathlib.Decide.{ℕ_discrete}
use lib.ListN.{length, take, drop, set, take-append-drop, length-append, length-set}
use lib.Seq.{length-take-le, take_at, drop_at, drop-drop, drop-set-lt}
use Rattle.model.specs.Scheme.{Scheme}
use Rattle.model.specs.SchemeBytes.{scheme_of, Accepted}
use Rattle.model.specs.Network.{Maps, held, world}
use Rattle.model.specs.Requests.{Request, event, set_policy, find, list, view, writes, granted}
use Rattle.model.specs.Calls.{puts, call_needs, FrontOnly, Left, ListAnswered, degree_number, DegreeAnswered, suggest_call_needs, SuggestLeft, SuggestAnswered, LengthOf}
use Rattle.model.proofs.Answering.{answers_unique}
use Rattle.model.proofs.Degrees.{degree_once}
use Rattle.model.proofs.Suggesting.{suggestions_once}

-- the list stands at the front, and behind it what stood there
pub filled : {count : ℕ} {out after : List ℕ} (l : List ℕ) → FrontOnly count out after → take count after ≡ l
    → (count ≡ length l) × (after ≡ l ++ drop count out)
filled {count} {out} {after} l f e = (
  sym (length-take-le count after f.within) ∙ ap length e,
  sym (take-append-drop count after) ∙ ap₂ (λ (x y : List ℕ). x ++ y) e f.behind,
)

-- and whatever stands so was written so
pub front_only : (l out : List ℕ) → FrontOnly (length l) out (l ++ drop (length l) out) × (take (length l) (l ++ drop (length l) out) ≡ l)
front_only l out = (
  record { within = simp length-append (omega arith); behind = drop_at l (drop (length l) out) (length l) refl },
  take_at l (drop (length l) out) (length l) refl,
)

-- where nothing was written, nothing changed
pub nothing_written : {count : ℕ} {out after : List ℕ} → FrontOnly count out after → take count after ≡ [] → (count ≡ 0) × (after ≡ out)
nothing_written {count} {out} {after} f e =
    let (c, a) = filled [] f e in
    (c, a ∙ ap (λ (i : ℕ). drop i out) c)

pub drop_more : (l l' : List ℕ) (n : ℕ) → drop n l' ≡ drop n l → drop (n + 1) l' ≡ drop (n + 1) l
drop_more l l' n e = sym (drop-drop 1 n l') ∙ ap (λ (k : List ℕ). drop 1 k) e ∙ drop-drop 1 n l

-- one place more was written
pub front_more : {count : ℕ} {out after : List ℕ} (x : ℕ) → count < length after → FrontOnly count out after → FrontOnly (count + 1) out (set after count x)
front_more {count} {out} {after} x h f = record {
  within = simp length-set (omega arith);
  behind = drop-set-lt (count + 1) after count x (omega arith) ∙ drop_more out after count f.behind;
}

-- a refusal writes nothing, and so does a grant that has nothing to write
pub none_granted : (k : ℕ) {l : List ℕ} → (k ≡ 0 → l ≡ []) → granted k l [] ≡ []
none_granted zero e = e refl
none_granted (suc k) e = refl

-- lists alone write
lists_alone : (c : Scheme) (s : Maps) (q : Request) → ((v u places : ℕ) → q ≡ list v u places → ⊥) → writes c s q ≡ []
lists_alone c s (event v u a) plain = refl
lists_alone c s (set_policy u r p) plain = refl
lists_alone c s (find v u) plain = refl
lists_alone c s (list v u places) plain = absurd (plain v u places refl)
lists_alone c s (view v u o) plain = refl

module _ (b net : List ℕ) (q : Request) (out : List ℕ) where
  -- what a call with this answer writes
  abbrev writing : ℕ → List ℕ
  writing answer = granted answer (writes (scheme_of b) (held (scheme_of b) net) q) []

  -- equal inputs leave no two results
  pub left_once : {k k' n n' : ℕ} {o o' after after' : List ℕ} → Left b net q out k n o after → Left b net q out k' n' o' after'
      → (k ≡ k') × (n ≡ n') × (o ≡ o') × (after ≡ after')
  left_once {k} {k'} {n} {n'} {o} {o'} {after} {after'} l l' =
      let e : k ≡ k' = answers_unique (call_needs b net q) k k' l.called.answered l'.called.answered in
      let (c, f) = filled (writing k') l.front (l.called.wrote ∙ ap writing e) in
      let (c', f') = filled (writing k') l'.front l'.called.wrote in
      let same : n ≡ n' = c ∙ sym c' in (
        e,
        same,
        f ∙ ap (λ (i : ℕ). writing k' ++ drop i out) same ∙ sym f',
        l.called.bytes ∙ ap (λ (i : ℕ). granted i (puts (scheme_of b) net q) net) e ∙ sym l'.called.bytes,
      )

  -- a refused request leaves the output as it was
  pub refused_left : {k n : ℕ} {o after : List ℕ} → (k ≡ 0 → ⊥) → Left b net q out k n o after → (n ≡ 0) × (o ≡ out)
  refused_left {k} refused l = nothing_written l.front (l.called.wrote ∙ none_granted k (λ z. absurd (refused z)))

  -- and so does one that is no list
  pub plain_left : {k n : ℕ} {o after : List ℕ} → ((v u places : ℕ) → q ≡ list v u places → ⊥) → Left b net q out k n o after → (n ≡ 0) × (o ≡ out)
  plain_left {k} plain l = nothing_written l.front (l.called.wrote ∙ none_granted k (λ z. lists_alone (scheme_of b) (held (scheme_of b) net) q plain))

-- one length, whether or not the scheme is accepted
pub length_once : (b : List ℕ) (r r' : ℕ) → LengthOf b r → LengthOf b r' → r ≡ r'
length_once b r r' f g = go (ℕ_discrete r r')
  where
    go : Dec (r ≡ r') → r ≡ r'
    go (yes e) = e
    go (no n) =
        let not : Accepted b → ⊥ = λ a. n (f.accepted a ∙ sym (g.accepted a)) in
        f.refused not ∙ sym (g.refused not)

-- one count in a lent place that a refusal leaves alone
count_once : (count n n' k k' : ℕ) → k ≡ k' → ((k ≡ 0 → ⊥) → n ≡ count) → ((k' ≡ 0 → ⊥) → n' ≡ count) → granted k n 0 ≡ granted k' n' 0 → n ≡ n'
count_once count n n' zero zero e p q c = c
count_once count n n' zero (suc y) e p q c = absurd (omega arith)
count_once count n n' (suc x) zero e p q c = absurd (omega arith)
count_once count n n' (suc x) (suc y) e p q c = p (λ z. omega arith) ∙ sym (q (λ z. omega arith))

-- one answer, one output and one count
pub list_once : (b net : List ℕ) (v u : ℕ) (out : List ℕ) (count k k' : ℕ) (after after' : List ℕ) (n n' : ℕ)
    → ListAnswered b net v u out count k after n
    → ListAnswered b net v u out count k' after' n'
    → (k ≡ k') × (after ≡ after') × (n ≡ n')
list_once b net v u out count k k' after after' n n' f g =
    let (e, c, o, same) = left_once b net (list v u (length out)) out f.left g.left in
    (e, o, count_once count n n' k k' e f.kept g.kept c)

-- one answer and one degree
pub degree_answered_once : (b net : List ℕ) (v u degree k k' n n' : ℕ)
    → DegreeAnswered b net v u degree k n
    → DegreeAnswered b net v u degree k' n'
    → (k ≡ k') × (n ≡ n')
degree_answered_once b net v u degree k k' n n' f g =
    let e : k ≡ k' = answers_unique (call_needs b net (find v u)) k k' f.answered g.answered in
    (e, same (ℕ_discrete k 0) e)
  where
    same : Dec (k ≡ 0) → k ≡ k' → n ≡ n'
    same (yes z) e =
        let (d, h, p) = f.told z in
        let (d', h', p') = g.told (sym e ∙ z) in
        p ∙ ap degree_number (degree_once (world (scheme_of b) (held (scheme_of b) net)).graph u v d d' h h') ∙ sym p'
    same (no r) e = f.kept r ∙ sym (g.kept (λ z. r (e ∙ z)))

-- one answer, one count and one output
pub suggest_left_once : (b net : List ℕ) (v c : ℕ) (out : List ℕ) {k k' n n' : ℕ} {o o' : List ℕ}
    → SuggestLeft b net v c out k n o
    → SuggestLeft b net v c out k' n' o'
    → (k ≡ k') × (n ≡ n') × (o ≡ o')
suggest_left_once b net v c out {k} {k'} {n} {n'} {o} {o'} f g =
    let e : k ≡ k' = answers_unique (suggest_call_needs b net v c (length out)) k k' f.answered g.answered in
    let p : take n o ≡ take n' o' = page (ℕ_discrete k 0) e in
    let (m, a) = filled (take n' o') f.front p in
    let (m', a') = filled (take n' o') g.front refl in
    let same : n ≡ n' = m ∙ sym m' in
    (e, same, a ∙ ap (λ (i : ℕ). take n' o' ++ drop i out) same ∙ sym a')
  where
    page : Dec (k ≡ 0) → k ≡ k' → take n o ≡ take n' o'
    page (yes z) e =
        suggestions_once (world (scheme_of b) (held (scheme_of b) net)) v c (take n o) (take n' o') (f.wrote z) (g.wrote (sym e ∙ z))
    page (no r) e = rw (f.nothing r, g.nothing (λ z. r (e ∙ z))) refl

pub suggest_answered_once : (b net : List ℕ) (v c : ℕ) (out : List ℕ) (count k k' : ℕ) (after after' : List ℕ) (n n' : ℕ)
    → SuggestAnswered b net v c out count k after n
    → SuggestAnswered b net v c out count k' after' n'
    → (k ≡ k') × (after ≡ after') × (n ≡ n')
suggest_answered_once b net v c out count k k' after after' n n' f g =
    let (e, same, o) = suggest_left_once b net v c out f.left g.left in
    (e, o, count_once count n n' k k' e f.kept g.kept same)
