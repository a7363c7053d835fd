-- Laws of pages: there is one, at most one, and the next candidate's is made from it by insertion.
use Prim.Native.Nat.{ℕ, zero, suc, ◌<◌, zero-le}
use mathlib.Core.Path.{◌≡◌, refl, sym, ap}
use mathlib.Core.Bool.{Bool, true, false, cond}
use mathlib.Core.List.{List, [], ◌∷◌, ◌++◌}
use mathlib.Core.Logic.{◌⊎◌, inl, inr}
use native.Mathlib.Omega.{arith}
use native.Mathlib.Decide.{ℕ_discrete}
use lib.ListN.{length, take}
use Rattle.model.specs.Graph.{Among}
use Rattle.model.specs.Page.{Strict, All, Ordered, FirstOf}
use Rattle.model.proofs.Deciding.{Says}

-- k put in front of the first that does not stand before it
unfoldable pub insert : (ℕ → ℕ → Bool) → ℕ → List ℕ → List ℕ
insert before k [] = k ∷ []
insert before k (x ∷ l) = cond (before x k) (x ∷ insert before k l) (k ∷ x ∷ l)

-- and the last dropped where there would be more than c
unfoldable pub enter : (ℕ → ℕ → Bool) → ℕ → ℕ → List ℕ → List ℕ
enter before c k l = take c (insert before k l)

-- the page of the candidates below n, built from none
unfoldable pub page_of : (ℕ → ℕ → Bool) → (ℕ → Bool) → ℕ → ℕ → List ℕ
page_of before candidate zero c = []
page_of before candidate (suc n) c =
    let l = page_of before candidate n c in
    cond (candidate n) (enter before c n l) l

-- those of a set that are below n
abbrev pub Below : (ℕ → Type 0) → ℕ → ℕ → Type 0
Below Of n m = (m < n) × Of m

pub all_at : (P : ℕ → Type 0) (l : List ℕ) (x : ℕ) → All P l → Among x l → P x
all_at P [] x h i = absurd i
all_at P (y ∷ l) x (p, h) (inl e) = rw e p
all_at P (y ∷ l) x (p, h) (inr i) = all_at P l x h i

pub all_map : {P Q : ℕ → Type 0} → ((x : ℕ) → P x → Q x) → (l : List ℕ) → All P l → All Q l
all_map f [] h = tt
all_map f (x ∷ l) (p, h) = (f x p, all_map f l h)

pub all_both : (P Q : ℕ → Type 0) (l : List ℕ) → All P l → All Q l → All (λ x. P x × Q x) l
all_both P Q [] h k = tt
all_both P Q (x ∷ l) (p, h) (q, k) = ((p, q), all_both P Q l h k)

-- two orders that say the same of those that suit have the same page
pub reordered : {Before Before' : ℕ → ℕ → Type 0} {P : ℕ → Type 0} {c : ℕ} {l : List ℕ}
    → ((x y : ℕ) → P x → P y → Before x y → Before' x y) → FirstOf Before P c l → FirstOf Before' P c l
reordered {Before} {Before'} {P} {c} {l} h f = record {
  ordered = go l f.suit f.ordered;
  suit = f.suit;
  fits = f.fits;
  left_out = λ m p n.
      let (e, b) = f.left_out m p n in
      (e, all_map (λ x (q, i). h x m q p i) l (all_both P (λ x. Before x m) l f.suit b));
}
  where
    go : (r : List ℕ) → All P r → Ordered Before r → Ordered Before' r
    go [] a o = tt
    go (x ∷ r) (p, a) (b, o) = (all_map (λ y (q, i). h x y p q i) r (all_both P (Before x) r a b), go r a o)

among_dec : (x : ℕ) (l : List ℕ) → Dec (Among x l)
among_dec x [] = no (λ h. h)
among_dec x (y ∷ l) = go (ℕ_discrete x y) (among_dec x l)
  where
    go : Dec (x ≡ y) → Dec (Among x l) → Dec (Among x (y ∷ l))
    go (yes e) d = yes (inl e)
    go (no n) (yes i) = yes (inr i)
    go (no n) (no k) = no neither
      where
        neither : Among x (y ∷ l) → ⊥
        neither (inl e) = n e
        neither (inr i) = k i

module _ {Before : ℕ → ℕ → Type 0} (s : Strict Before) where
  asymmetric : (x y : ℕ) → Before x y → Before y x → ⊥
  asymmetric x y p q = s.irreflexive x (s.transitive x y x p q)

  -- no page of no places but the empty one
  empty : (P : ℕ → Type 0) → FirstOf Before P 0 []
  empty P = record { ordered = tt; suit = tt; fits = zero-le; left_out = λ m p n. (refl, tt) }

  -- the same suit, the same page
  pub alike : {P Q : ℕ → Type 0} {c : ℕ} {l : List ℕ} → ((m : ℕ) → P m → Q m) → ((m : ℕ) → Q m → P m)
      → FirstOf Before P c l → FirstOf Before Q c l
  alike {P} {Q} {c} {l} to from f = record {
    ordered = f.ordered;
    suit = all_map to l f.suit;
    fits = f.fits;
    left_out = λ m q n. f.left_out m (from m q) n;
  }

  -- whoever suits is the first or stands later
  first_is : {P : ℕ → Type 0} {c : ℕ} {x : ℕ} {l : List ℕ} → FirstOf Before P c (x ∷ l) → (m : ℕ) → P m → (m ≡ x) ⊎ Before x m
  first_is {P} {c} {x} {l} f m p = go (among_dec m (x ∷ l))
    where
      go : Dec (Among m (x ∷ l)) → (m ≡ x) ⊎ Before x m
      go (yes (inl e)) = inl e
      go (yes (inr i)) = inr (all_at (Before x) l m f.ordered.0 i)
      go (no n) = inr (f.left_out m p n).1.0

  -- behind the first stands the page, a place shorter, of those that stand later
  behind_first : {P : ℕ → Type 0} {c : ℕ} {x : ℕ} {l : List ℕ} → FirstOf Before P (suc c) (x ∷ l) → FirstOf Before (λ m. P m × Before x m) c l
  behind_first {P} {c} {x} {l} f = record {
    ordered = f.ordered.1;
    suit = all_both P (Before x) l f.suit.1 f.ordered.0;
    fits = let h = f.fits in omega arith;
    left_out = λ m (p, b) n. let (e, h) = f.left_out m p (absent m b n) in (omega arith, h.1);
  }
    where
      absent : (m : ℕ) → Before x m → (Among m l → ⊥) → Among m (x ∷ l) → ⊥
      absent m b n (inl e) = s.irreflexive x (rw e at b)
      absent m b n (inr i) = n i

  in_front : {P : ℕ → Type 0} {c : ℕ} {x : ℕ} {l : List ℕ} → P x → ((m : ℕ) → P m → (m ≡ x) ⊎ Before x m)
      → FirstOf Before (λ m. P m × Before x m) c l → FirstOf Before P (suc c) (x ∷ l)
  in_front {P} {c} {x} {l} px later f = record {
    ordered = (all_map (λ m h. h.1) l f.suit, f.ordered);
    suit = (px, all_map (λ m h. h.0) l f.suit);
    fits = let h = f.fits in omega arith;
    left_out = λ m p n. out m p (λ i. n (inr i)) (λ e. n (inl e)) (later m p);
  }
    where
      out : (m : ℕ) → P m → (Among m l → ⊥) → (m ≡ x → ⊥) → (m ≡ x) ⊎ Before x m → (length (x ∷ l) ≡ suc c) × All (λ y. Before y m) (x ∷ l)
      out m p n d (inl e) = absurd (d e)
      out m p n d (inr b) = let (e, h) = f.left_out m (p, b) n in (ap suc e, (b, h))

  -- a page of c places is the front of one with a place more
  cut : {P : ℕ → Type 0} (c : ℕ) (l : List ℕ) → FirstOf Before P (suc c) l → FirstOf Before P c (take c l)
  cut {P} zero l f = empty P
  cut {P} (suc c) [] f = record {
    ordered = tt;
    suit = tt;
    fits = zero-le;
    left_out = λ m p n. let (e, h) = f.left_out m p n in absurd (omega arith);
  }
  cut {P} (suc c) (x ∷ l) f = in_front f.suit.0 (first_is f) (cut {P = λ m. P m × Before x m} c l (behind_first f))

  -- k enters between those that stand before it and those that it stands before; what is beyond c places is dropped
  pub enters : {P Q : ℕ → Type 0} (k : ℕ) → Q k → ((m : ℕ) → P m → Q m) → ((m : ℕ) → Q m → (m ≡ k) ⊎ P m)
      → (c : ℕ) (a b : List ℕ) → All (λ x. Before x k) a → All (Before k) b
      → FirstOf Before P c (a ++ b) → FirstOf Before Q c (take c (a ++ k ∷ b))
  enters {P} {Q} k qk to from zero a b ha hb f = empty Q
  enters {P} {Q} k qk to from (suc c) [] b ha hb f =
      in_front qk (λ m q. later m (from m q)) (cut c b (alike (λ m p. (to m p, after m p)) (λ m (q, h). old m h (from m q)) f))
    where
      past : (m : ℕ) (l : List ℕ) → All (Before k) l → length l ≡ suc c → All (λ x. Before x m) l → Before k m
      past m [] h e g = absurd (omega arith)
      past m (y ∷ l) (h, hs) e (g, gs) = s.transitive k y m h g

      after : (m : ℕ) → P m → Before k m
      after m p = go (among_dec m b)
        where
          go : Dec (Among m b) → Before k m
          go (yes i) = all_at (Before k) b m hb i
          go (no n) = let (e, h) = f.left_out m p n in past m b hb e h

      later : (m : ℕ) → (m ≡ k) ⊎ P m → (m ≡ k) ⊎ Before k m
      later m (inl e) = inl e
      later m (inr p) = inr (after m p)

      old : (m : ℕ) → Before k m → (m ≡ k) ⊎ P m → P m
      old m h (inl e) = absurd (s.irreflexive k (rw e at h))
      old m h (inr p) = p
  enters {P} {Q} k qk to from (suc c) (x ∷ a) b (h, ha) hb f =
      in_front (to x f.suit.0) (λ m q. later m (from m q))
      (enters {P = λ m. P m × Before x m} {Q = λ m. Q m × Before x m} k (qk, h) (λ m (p, g). (to m p, g)) (λ m (q, g). new m g (from m q)) c a b ha hb (behind_first f))
    where
      later : (m : ℕ) → (m ≡ k) ⊎ P m → (m ≡ x) ⊎ Before x m
      later m (inl e) = inr (rw e h)
      later m (inr p) = first_is f m p

      new : (m : ℕ) → Before x m → (m ≡ k) ⊎ P m → (m ≡ k) ⊎ (P m × Before x m)
      new m g (inl e) = inl e
      new m g (inr p) = inr (p, g)

  -- at most one page
  pub page_unique : {P : ℕ → Type 0} (c : ℕ) (l r : List ℕ) → FirstOf Before P c l → FirstOf Before P c r → l ≡ r
  page_unique c [] [] f g = refl
  page_unique c [] (y ∷ r) f g = let (e, h) = f.left_out y g.suit.0 (λ i. i) in let k = g.fits in absurd (omega arith)
  page_unique c (x ∷ l) [] f g = let (e, h) = g.left_out x f.suit.0 (λ i. i) in let k = f.fits in absurd (omega arith)
  page_unique zero (x ∷ l) (y ∷ r) f g = let k = f.fits in absurd (omega arith)
  page_unique {P} (suc c) (x ∷ l) (y ∷ r) f g =
      let e : y ≡ x = same (first_is f y g.suit.0) (first_is g x f.suit.0) in
      let h : FirstOf Before (λ m. P m × Before x m) c r = rw (← e) (behind_first g) in
      cc (page_unique {P = λ m. P m × Before x m} c l r (behind_first f) h)
    where
      same : (y ≡ x) ⊎ Before x y → (x ≡ y) ⊎ Before y x → y ≡ x
      same (inl e) q = e
      same (inr p) (inl e) = sym e
      same (inr p) (inr q) = absurd (asymmetric x y p q)

-- where k enters l
pub record Place (Before : ℕ → ℕ → Type 0) (k : ℕ) (l entered : List ℕ) : Type 0 where
  pub front : List ℕ
  pub back : List ℕ
  pub whole : l ≡ front ++ back
  pub made : entered ≡ front ++ k ∷ back
  pub earlier : All (λ x. Before x k) front
  pub later : All (Before k) back

module _ {Before : ℕ → ℕ → Type 0} (s : Strict Before) {before : ℕ → ℕ → Bool} (is-before : (x y : ℕ) → Says (before x y) (Before x y)) where
  -- who stands before all of them goes in at the front
  pub insert_first : (x : ℕ) (l : List ℕ) → All (Before x) l → insert before x l ≡ x ∷ l
  unfolding insert
  insert_first x [] h = refl
  insert_first x (y ∷ l) (h, hs) = go (before y x) refl
    where
      go : (t : Bool) → before y x ≡ t → cond t (y ∷ insert before x l) (x ∷ y ∷ l) ≡ x ∷ y ∷ l
      go true e = absurd (asymmetric s x y h ((is-before y x).yes_if e))
      go false e = refl

  place : (k : ℕ) (l : List ℕ) → Ordered Before l → All (λ x. x ≡ k → ⊥) l → Place Before k l (insert before k l)
  unfolding insert
  place k [] o d = record { front = []; back = []; whole = refl; made = refl; earlier = tt; later = tt }
  place k (x ∷ l) (h, o) (n, d) = go (before x k) refl (place k l o d)
    where
      front_of : Before x k ⊎ Before k x → (Before x k → ⊥) → Before k x
      front_of (inl p) q = absurd (q p)
      front_of (inr p) q = p

      go : (t : Bool) → before x k ≡ t → Place Before k l (insert before k l) → Place Before k (x ∷ l) (cond t (x ∷ insert before k l) (k ∷ x ∷ l))
      go true e i = record {
        front = x ∷ i.front;
        back = i.back;
        whole = ap (λ (r : List ℕ). x ∷ r) i.whole;
        made = ap (λ (r : List ℕ). x ∷ r) i.made;
        earlier = ((is-before x k).yes_if e, i.earlier);
        later = i.later;
      }
      go false e i =
          let b : Before k x = front_of (s.total x k n) ((is-before x k).no_if e) in
          record {
            front = [];
            back = x ∷ l;
            whole = refl;
            made = refl;
            earlier = tt;
            later = (b, all_map (λ y g. s.transitive k x y b g) l h);
          }

  module _ {Candidate : ℕ → Type 0} where
    -- the next number is a candidate
    pub page_next : (n c : ℕ) (l : List ℕ) → Candidate n → FirstOf Before (Below Candidate n) c l → FirstOf Before (Below Candidate (suc n)) c (enter before c n l)
    unfolding enter
    page_next n c l h f = rw p.made (enters s n (omega arith, h) (λ m (b, g). (omega arith, g)) new c p.front p.back p.earlier p.later (rw (← p.whole) f))
      where
        p : Place Before n l (insert before n l)
        p = place n l f.ordered (all_map (λ x (b, g) e. omega arith) l f.suit)

        new : (m : ℕ) → Below Candidate (suc n) m → (m ≡ n) ⊎ Below Candidate n m
        new m (b, g) = go (ℕ_discrete m n)
          where
            go : Dec (m ≡ n) → (m ≡ n) ⊎ Below Candidate n m
            go (yes e) = inl e
            go (no d) = inr (omega arith, g)

    -- the next number is none
    pub page_stays : (n c : ℕ) (l : List ℕ) → (Candidate n → ⊥) → FirstOf Before (Below Candidate n) c l → FirstOf Before (Below Candidate (suc n)) c l
    page_stays n c l h f = alike s (λ m (b, g). (omega arith, g)) old f
      where
        old : (m : ℕ) → Below Candidate (suc n) m → Below Candidate n m
        old m (b, g) = go (ℕ_discrete m n)
          where
            go : Dec (m ≡ n) → Below Candidate n m
            go (yes e) = absurd (h (rw e at g))
            go (no d) = (omega arith, g)

    pub page_none : (c : ℕ) → FirstOf Before (Below Candidate 0) c []
    page_none c = record { ordered = tt; suit = tt; fits = zero-le; left_out = λ m (b, h) n. absurd (omega arith) }

    -- there is a page
    pub page_exists : {candidate : ℕ → Bool} → ((m : ℕ) → Says (candidate m) (Candidate m)) → (n c : ℕ) → FirstOf Before (Below Candidate n) c (page_of before candidate n c)
    unfolding page_of
    page_exists {candidate} d zero c = page_none c
    page_exists {candidate} d (suc n) c = go (candidate n) refl (page_of before candidate n c) (page_exists d n c)
      where
        go : (t : Bool) → candidate n ≡ t → (l : List ℕ) → FirstOf Before (Below Candidate n) c l → FirstOf Before (Below Candidate (suc n)) c (cond t (enter before c n l) l)
        go true e l f = page_next n c l ((d n).yes_if e) f
        go false e l f = page_stays n c l ((d n).no_if e) f
