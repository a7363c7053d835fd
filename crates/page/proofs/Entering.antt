-- The insertion, turn by turn.
use Rattle.std.proofs.Common.{ℕ, zero, suc, ◌+◌, ◌-◌, ◌<◌, ◌≤◌, ◌≡◌, refl, sym, ◌∙◌, ap, Bool, true, false, cond, List, [], ◌∷◌, ◌++◌, length, get_or, take, drop, set, arith, append_assoc, add-one}
use native.Mathlib.Decide.{dec_lt, ℕ_discrete}
use mathlib.Core.Logic.{inl, inr}
use Rattle.std.proofs.lemmas.Grind.{common_steps}
use Rattle.std.proofs.lemmas.List.{drop_more, take_all, take_at, drop_at, set_at, length-append, length-drop, length-take-le, drop-drop, get_or-take, take-append-le, drop-append-le, take-append-drop}
use lib.ListN.{drop_of_length-le}
use Rattle.model.specs.Page.{All, Ordered, FirstOf}
use Rattle.model.specs.Suggestions.{Earlier}
use Rattle.model.proofs.Deciding.{is_so}
use Rattle.model.proofs.Paging.{Below, insert, enter, insert_first, all_map, page_next, page_stays}
use Rattle.model.proofs.Suggesting.{earlier, earlier_strict, is_earlier}
use Rattle.page.specs.Pages.{rank_of, InOrder, Inserted, Entered, LastRank, Filled}

pub all_get : (P : ℕ → Type 0) (l : List ℕ) (i : ℕ) → All P l → i < length l → P (get_or l i 0)
all_get P [] i h b = absurd (omega arith)
all_get P (x ∷ l) zero (p, h) b = p
all_get P (x ∷ l) (suc i) (p, h) b = all_get P l i h (omega arith)

ordered_drop : (Before : ℕ → ℕ → Type 0) (l : List ℕ) (j : ℕ) → Ordered Before l → Ordered Before (drop j l)
ordered_drop Before l zero o = o
ordered_drop Before [] (suc j) o = tt
ordered_drop Before (x ∷ l) (suc j) (h, o) = ordered_drop Before l j o

insert_cons : (before : ℕ → ℕ → Bool) (k x : ℕ) (l : List ℕ) → insert before k (x ∷ l) ≡ cond (before x k) (x ∷ insert before k l) (k ∷ x ∷ l)
unfolding insert
insert_cons before k x l = refl

insert_nil : (before : ℕ → ℕ → Bool) (k : ℕ) → insert before k [] ≡ k ∷ []
unfolding insert
insert_nil before k = refl

-- before the place j: the page's front is final, and what is carried goes in behind it
pub record Going (ranks old : List ℕ) (m : ℕ) (page : List ℕ) (carried j : ℕ) : Type 0 where
  pub long : length page ≡ length old
  pub ranked : carried < length ranks
  pub made : insert (earlier (rank_of ranks)) m old ≡ take j page ++ insert (earlier (rank_of ranks)) carried (drop j old)
  pub behind : drop j page ≡ drop j old

module _ {ranks old : List ℕ} {m : ℕ} (o : InOrder ranks old) {page : List ℕ} {carried j : ℕ} (g : Going ranks old m page carried j) (l : j < length old) where
  -- the one here
  here : ℕ
  here = get_or page j 0

  rest : drop j old ≡ here ∷ drop (j + 1) old
  unfolding here
  rest = grind (arith, common_steps)

  -- the one here stands before what is carried
  pub going_past : earlier (rank_of ranks) (get_or page j 0) carried ≡ true → Going ranks old m page carried (j + 1)
  unfolding here
  going_past t = record {
    long = g.long;
    ranked = g.ranked;
    made =
        let e = insert_cons (earlier (rank_of ranks)) carried here (drop (j + 1) old) in
        grind (arith, common_steps);
    behind = grind (arith, common_steps);
  }

  -- what is carried goes here, and the one that was here is carried on
  pub going_on : earlier (rank_of ranks) (get_or page j 0) carried ≡ false → Going ranks old m (set page j carried) (get_or page j 0) (j + 1)
  unfolding here
  going_on t = record {
    long = grind (arith, common_steps);
    ranked = rw known (all_get (λ x. x < length ranks) old j o.known l);
    made =
        let e = insert_cons (earlier (rank_of ranks)) carried here (drop (j + 1) old) in
        let f = first in
        grind (arith, common_steps);
    behind = grind (arith, common_steps);
  }
    where
      known : get_or page j 0 ≡ get_or old j 0
      known = grind (arith, common_steps)

      ordered : Ordered (Earlier (rank_of ranks)) (here ∷ drop (j + 1) old)
      ordered = rw rest at (ordered_drop (Earlier (rank_of ranks)) old j o.ordered)

      first : insert (earlier (rank_of ranks)) here (drop (j + 1) old) ≡ here ∷ drop (j + 1) old
      first = insert_first (earlier_strict (rank_of ranks)) (is_earlier (rank_of ranks)) here (drop (j + 1) old) ordered.0

-- behind the last place stands what is carried
pub inserted : {ranks old : List ℕ} {m : ℕ} {page : List ℕ} {carried j : ℕ} → Going ranks old m page carried j → length old ≤ j
    → Inserted ranks old m page carried
inserted {ranks} {old} {m} {page} {carried} {j} g n =
    let e = insert_nil (earlier (rank_of ranks)) carried in
    let t : take j page ≡ page = take_all j page (omega (arith, g.long)) in
    let d : drop j old ≡ [] = drop_of_length-le old n in
    rw (t, d, e) at g.made

-- the page in the first used places, with m in its place and whoever is left over
module _ {ranks old : List ℕ} {m used : ℕ} (b : used ≤ length old) (page : List ℕ) (left : ℕ) (long : length page ≡ used) (made : Inserted ranks (take used old) m page left) where
  -- there is a place more
  pub entered_more : used < length old → Entered ranks old used m (used + 1) (set (page ++ drop used old) used left)
  unfolding enter
  entered_more h =
      let d : drop used old ≡ get_or old used 0 ∷ drop (used + 1) old = drop_more old used 0 h in
      let p : length (page ++ left ∷ []) ≡ used + 1 = simp length-append (ap (λ (i : ℕ). i + 1) long) in
      let s : set (page ++ drop used old) used left ≡ (page ++ left ∷ []) ++ drop (used + 1) old =
      rw d (set_at page (get_or old used 0) (drop (used + 1) old) left used long ∙ sym (append_assoc page (left ∷ []) (drop (used + 1) old))) in
      rw s (record {
        long = simp (length-append, length-drop) (omega arith);
        grown = omega arith;
        fits = omega arith;
        front = take_at (page ++ left ∷ []) (drop (used + 1) old) (used + 1) p ∙ sym made ∙ sym (take_all (length old) _ (omega (arith, ap length made)));
        behind = drop_at (page ++ left ∷ []) (drop (used + 1) old) (used + 1) p;
      })

  -- the page is full: who is left over is dropped
  pub entered_full : length old ≤ used → Entered ranks old used m used (page ++ drop used old)
  unfolding enter
  entered_full h = record {
    long = simp (length-append, length-drop) (omega arith);
    grown = omega arith;
    fits = omega arith;
    front = take_at page (drop used old) used long ∙ sym (ap (take (length old)) made ∙ take_at page (left ∷ []) (length old) (omega arith));
    behind = drop_at page (drop used old) used long;
  }

-- whoever the one in the place i stands before goes in behind it
past_place : (f : ℕ → ℕ) (k i : ℕ) (l : List ℕ) → Ordered (Earlier f) l → i < length l → Earlier f (get_or l i 0) k
    → take (suc i) (insert (earlier f) k l) ≡ take (suc i) l
past_place f k i [] o b h = absurd (omega arith)
past_place f k zero (x ∷ l) o b h = rw (insert_cons, is_so (is_earlier f x k) h)
past_place f k (suc i) (x ∷ l) (g, o) b h =
    let t = (earlier_strict f).transitive x (get_or l i 0) k (all_get (Earlier f x) l i g (omega arith)) h in
    rw (insert_cons, is_so (is_earlier f x k) t, past_place f k i l o (omega arith) h)

-- whoever the last on a full page stands before does not enter
entered_none : (f : ℕ → ℕ) (k i c : ℕ) (l : List ℕ) → Ordered (Earlier f) l → suc i ≡ c → length l ≡ c → Earlier f (get_or l i 0) k
    → enter (earlier f) c k l ≡ l
unfolding enter
entered_none f k i c l o e b h = (rw e at (past_place f k i l o (omega arith) h)) ∙ take_all c l (omega arith)

-- the lower number stands before whoever's rank is no greater
no_later : (f : ℕ → ℕ) (x y : ℕ) → f y ≤ f x → x < y → Earlier f x y
no_later f x y h l = go (dec_lt (f y) (f x))
  where
    go : Dec (f y < f x) → Earlier f x y
    go (yes s) = inl s
    go (no s) = inr (omega arith, l)

module _ {ranks old : List ℕ} {wanted n used : ℕ} {page : List ℕ} (f : Filled ranks old wanted n used page) where
  -- all on it are members of a rank
  pub filled_in_order : n ≤ length ranks → InOrder ranks (take used page)
  filled_in_order h = record {
    known = all_map (λ x (b, g). omega arith) (take used page) f.front.suit;
    ordered = f.front.ordered;
  }

  pub filled_next : {r : ℕ} {after : List ℕ} → wanted ≡ length page → 0 < get_or ranks n 0 → Entered ranks page used n r after → Filled ranks old wanted (n + 1) r after
  filled_next {r} {after} l h e = record {
    long = e.long ∙ f.long;
    fits = omega (arith, e.fits);
    front = rw (add-one n, e.front, ← l) (page_next (earlier_strict (rank_of ranks)) (is_earlier (rank_of ranks)) n wanted (take used page) h f.front);
    behind = e.behind ∙ ap (λ (i : ℕ). drop i page) split ∙ sym (drop-drop (r - used) used page) ∙ ap (drop (r - used)) f.behind ∙ drop-drop (r - used) used old ∙ ap (λ (i : ℕ). drop i old) (sym split);
  }
    where
      split : r ≡ used + (r - used)
      split = omega (arith, e.grown)

  -- whose rank does not exceed that of the last on a full page, or 0 while a place is free, does not enter
  pub filled_stays : {least : ℕ} → wanted ≡ length page → LastRank ranks page used least → get_or ranks n 0 ≤ least → Filled ranks old wanted (n + 1) used page
  filled_stays {least} l t h = record {
    long = f.long;
    fits = f.fits;
    front = rw (add-one n) (stays (dec_lt 0 (get_or ranks n 0)) (dec_lt 0 used) (ℕ_discrete used (length page)));
    behind = f.behind;
  }
    where
      After : Type 0
      After = FirstOf (Earlier (rank_of ranks)) (Below (λ m. 1 ≤ rank_of ranks m) (suc n)) wanted (take used page)

      none : get_or ranks n 0 ≤ 0 → After
      none z = page_stays (earlier_strict (rank_of ranks)) (is_earlier (rank_of ranks)) n wanted (take used page) (λ i. omega arith) f.front

      full : 0 < get_or ranks n 0 → 0 < used → used ≡ length page → After
      full g p e =
          let s : length (take used page) ≡ used = length-take-le used page (omega arith) in
          let x = get_or (take used page) (used - 1) 0 in
          let d : x ≡ get_or page (used - 1) 0 = get_or-take used page (used - 1) 0 (omega arith) in
          let low : x < n = (all_get (Below (λ m. 1 ≤ rank_of ranks m) n) (take used page) (used - 1) f.front.suit (omega arith)).0 in
          let r : get_or ranks n 0 ≤ rank_of ranks x = rw d (omega (arith, t.full p e)) in
          rw (entered_none (rank_of ranks) n (used - 1) wanted (take used page) f.front.ordered (omega arith) (omega arith) (no_later (rank_of ranks) x n r low))
          at (page_next (earlier_strict (rank_of ranks)) (is_earlier (rank_of ranks)) n wanted (take used page) g f.front)

      stays : Dec (0 < get_or ranks n 0) → Dec (0 < used) → Dec (used ≡ length page) → After
      stays (no g) d e = none (omega arith)
      stays (yes g) (yes p) (yes e) = full g p e
      stays (yes g) (yes p) (no e) = none (omega (arith, t.free (λ a b. e b)))
      stays (yes g) (no p) e = none (omega (arith, t.free (λ a b. p a)))

-- the wanted places with those behind them
pub filled_wanted : {ranks old : List ℕ} {wanted n used : ℕ} {places : List ℕ} → wanted ≤ length old → length places ≡ wanted
    → Filled ranks (take wanted old) wanted n used places → Filled ranks old wanted n used (places ++ drop wanted old)
filled_wanted {ranks} {old} {wanted} {n} {used} {places} b l f = record {
  long = simp (length-append, length-drop) (omega arith);
  fits = f.fits;
  front = rw (take-append-le used places (drop wanted old) (omega (arith, f.fits))) f.front;
  behind = rw (drop-append-le used places (drop wanted old) (omega (arith, f.fits)), f.behind)
      (sym (drop-append-le used (take wanted old) (drop wanted old) (omega (arith, f.fits, length-take-le wanted old b))) ∙ ap (drop used) (take-append-drop wanted old));
}
