-- Tests that say whether a proposition holds, and the computed policies as such tests.
use Prim.Native.Nat.{ℕ, zero, suc, ◌<◌, ◌≤◌}
use mathlib.Core.Path.{◌≡◌, refl, sym, ◌∙◌, ap}
use mathlib.Core.Bool.{Bool, true, false, ◌&&◌, ◌||◌, not, true≢false, false≢true}
use mathlib.Core.List.{List, [], ◌∷◌}
use mathlib.Core.Logic.{◌⊎◌, inl, inr}
use native.Mathlib.Omega.{arith}
use native.Mathlib.Nat.{not-suc-le-zero}
use native.Mathlib.Decide.{ℕ_discrete}
use lib.Dec.{eqb, leb, ltb}
use lib.ListN.{length}
use borrow.Author.Tests.{eqb-true, eqb-false, ltb-true, ltb-false, leb-true, leb-false}
use Rattle.model.specs.Decides.{Decides}
use Rattle.model.specs.Graph.{Graph, Friends, Within, shared, FriendOfAll, Mutual, Among, Clique}
use Rattle.model.specs.Policies.{Side, any_side, owner_lesser, owner_greater, OnSide, Admits}
use Rattle.model.specs.Policies.{Policy, no_one, everyone, owner_only, within, known, clique, state, both, either}
use Rattle.model.proofs.Computing.{some, every, among, is_within, friend_of_all, all_friends, some_list, is_clique, on_side, admits}

-- b says whether P holds; a record, so that both can be inferred
pub record Says (b : Bool) (P : Type 0) : Type 0 where
  pub yes_if : b ≡ true → P
  pub no_if : b ≡ false → P → ⊥

pub decided : {b : Bool} {P : Type 0} → Says b P → Decides b P
decided {b} {P} d = go b d.yes_if d.no_if
  where
    go : (x : Bool) → (x ≡ true → P) → (x ≡ false → P → ⊥) → Decides x P
    go true y n = y refl
    go false y n = n refl

pub says : {b : Bool} {P : Type 0} → Decides b P → Says b P
says {b} {P} = go b
  where
    go : (x : Bool) → Decides x P → Says x P
    go true d = record { yes_if = λ e. d; no_if = λ e. absurd (true≢false e) }
    go false d = record { yes_if = λ e. absurd (false≢true e); no_if = λ e. d }

-- what a test's answer says
pub said_yes : {b : Bool} {P : Type 0} → b ≡ true → Decides b P → P
said_yes e d = (says d).yes_if e

pub said_no : {b : Bool} {P : Type 0} → b ≡ false → Decides b P → P → ⊥
said_no e d = (says d).no_if e

-- the same where the code asks for the opposite, `if !test() { .. }`
pub refused : (b : Bool) {P : Type 0} → not b ≡ true → Decides b P → P → ⊥
refused true e d = absurd (false≢true e)
refused false e d = d

pub passed : (b : Bool) {P : Type 0} → not b ≡ false → Decides b P → P
passed true e d = d
passed false e d = absurd (true≢false e)

pub is_so : {b : Bool} {P : Type 0} → Says b P → P → b ≡ true
is_so {b} {P} d p = go b d.no_if
  where
    go : (x : Bool) → (x ≡ false → P → ⊥) → x ≡ true
    go true n = refl
    go false n = absurd (n refl p)

pub is_not : {b : Bool} {P : Type 0} → Says b P → (P → ⊥) → b ≡ false
is_not {b} {P} d n = go b d.yes_if
  where
    go : (x : Bool) → (x ≡ true → P) → x ≡ false
    go true y = absurd (n (y refl))
    go false y = refl

-- two tests of one proposition are the same
pub says_once : {b b' : Bool} {P : Type 0} → Says b P → Says b' P → b ≡ b'
says_once {b} {b'} {P} d d' = go b d.yes_if d.no_if
  where
    go : (t : Bool) → (t ≡ true → P) → (t ≡ false → P → ⊥) → t ≡ b'
    go true y n = sym (is_so d' (y refl))
    go false y n = sym (is_not d' (n refl))

pub iff : {b : Bool} {P Q : Type 0} → (P → Q) → (Q → P) → Says b P → Says b Q
iff f g d = record { yes_if = λ e. f (d.yes_if e); no_if = λ e q. d.no_if e (g q) }

pub is_eq : (a b : ℕ) → Says (eqb a b) (a ≡ b)
is_eq a b = record { yes_if = eqb-true a b; no_if = eqb-false a b }

pub is_lt : (a b : ℕ) → Says (ltb a b) (a < b)
is_lt a b = record { yes_if = ltb-true a b; no_if = λ e h. let k : b ≤ a = ltb-false a b e in omega arith }

pub is_le : (a b : ℕ) → Says (leb a b) (a ≤ b)
is_le a b = record { yes_if = leb-true a b; no_if = λ e h. let k : b < a = leb-false a b e in omega arith }

pub is_true : (b : Bool) → Says b (b ≡ true)
is_true b = record { yes_if = λ e. e; no_if = λ e h. false≢true (sym e ∙ h) }

pub negated : {b : Bool} {P : Type 0} → Says b P → Says (not b) (P → ⊥)
negated {b} {P} d = says (go b (decided d))
  where
    go : (x : Bool) → Decides x P → Decides (not x) (P → ⊥)
    go true d = λ n. n d
    go false d = d

pub conj : {a b : Bool} {P Q : Type 0} → Says a P → Says b Q → Says (a && b) (P × Q)
conj {a} {b} {P} {Q} d e = says (go a b (decided d) (decided e))
  where
    go : (x y : Bool) → Decides x P → Decides y Q → Decides (x && y) (P × Q)
    go true true p q = (p, q)
    go true false p q = λ h. q h.1
    go false y p q = λ h. p h.0

pub disj : {a b : Bool} {P Q : Type 0} → Says a P → Says b Q → Says (a || b) (P ⊎ Q)
disj {a} {b} {P} {Q} d e = says (go a b (decided d) (decided e))
  where
    neither : (P → ⊥) → (Q → ⊥) → P ⊎ Q → ⊥
    neither p q (inl x) = p x
    neither p q (inr y) = q y

    go : (x y : Bool) → Decides x P → Decides y Q → Decides (x || y) (P ⊎ Q)
    go true y p q = inl p
    go false true p q = inr q
    go false false p q = neither p q

-- some m below n
pub is_some : {f : ℕ → Bool} {P : ℕ → Type 0} → ((m : ℕ) → Says (f m) (P m)) → (n : ℕ) → Says (some f n) ((m : ℕ) × (m < n) × P m)
unfolding some
is_some {f} {P} d zero = says (λ (m, b, p). not-suc-le-zero b)
is_some {f} {P} d (suc n) = iff to from (disj (is_some d n) (d n))
  where
    to : (((m : ℕ) × (m < n) × P m) ⊎ P n) → (m : ℕ) × (m < suc n) × P m
    to (inl (m, b, p)) = (m, omega arith, p)
    to (inr p) = (n, omega arith, p)

    from : ((m : ℕ) × (m < suc n) × P m) → (((m : ℕ) × (m < n) × P m) ⊎ P n)
    from (m, b, p) = go (ℕ_discrete m n)
      where
        go : Dec (m ≡ n) → (((m : ℕ) × (m < n) × P m) ⊎ P n)
        go (yes e) = inr (rw (← e) p)
        go (no h) = inl (m, omega arith, p)

pub every_holds : (f : ℕ → Bool) (n : ℕ) → every f n ≡ true → (m : ℕ) → m < n → f m ≡ true
unfolding every
every_holds f zero e m b = absurd (not-suc-le-zero b)
every_holds f (suc n) e m b = go (ℕ_discrete m n) (λ h. every_holds f n halves.0 m h)
  where
    halves : (every f n ≡ true) × (f n ≡ true)
    halves = (conj (is_true (every f n)) (is_true (f n))).yes_if e

    go : Dec (m ≡ n) → (m < n → f m ≡ true) → f m ≡ true
    go (yes h) i = rw h halves.1
    go (no h) i = i (omega arith)

-- or one has not
pub every_fails : (f : ℕ → Bool) (n : ℕ) → every f n ≡ false → (m : ℕ) × (m < n) × (f m ≡ false)
unfolding every
every_fails f zero e = absurd (true≢false e)
every_fails f (suc n) e = go (f n) refl (every f n) (λ z. every_fails f n z) e
  where
    go : (b : Bool) → f n ≡ b → (a : Bool) → (a ≡ false → (m : ℕ) × (m < n) × (f m ≡ false)) → (a && b) ≡ false
        → (m : ℕ) × (m < suc n) × (f m ≡ false)
    go false q a ih h = (n, omega arith, q)
    go true q true ih h = absurd (true≢false h)
    go true q false ih h = let (m, b, z) = ih refl in (m, omega arith, z)

pub is_among : (x : ℕ) (l : List ℕ) → Says (among x l) (Among x l)
unfolding among
is_among x [] = says (λ h. h)
is_among x (y ∷ l) = disj (is_eq x y) (is_among x l)

-- nobody outside is a friend
abbrev pub Inside : Graph → Type 0
Inside g = (u m : ℕ) → Friends g u m → m < g.members

abbrev AllBelow : ℕ → List ℕ → Type 0
AllBelow n [] = Unit {0}
AllBelow n (x ∷ l) = (x < n) × AllBelow n l

is_some_list : (n k : ℕ) {f : List ℕ → Bool} {P : List ℕ → Type 0} → ((l : List ℕ) → Says (f l) (P l))
    → Says (some_list n k f) ((l : List ℕ) × (length l ≡ k) × AllBelow n l × P l)
unfolding some_list
is_some_list n zero {f} {P} d = iff (λ p. ([], refl, tt, p)) from (d [])
  where
    from : ((l : List ℕ) × (length l ≡ 0) × AllBelow n l × P l) → P []
    from ([], e, a, p) = p
    from (x ∷ l, e, a, p) = absurd (omega arith)
is_some_list n (suc k) {f} {P} d =
    iff (λ (x, b, (l, e, a, p)). (x ∷ l, ap suc e, (b, a), p)) from (is_some (λ x. is_some_list n k (λ l. d (x ∷ l))) n)
  where
    from : ((l : List ℕ) × (length l ≡ suc k) × AllBelow n l × P l) → (x : ℕ) × (x < n) × ((l : List ℕ) × (length l ≡ k) × AllBelow n l × P (x ∷ l))
    from ([], e, a, p) = absurd (omega arith)
    from (x ∷ l, e, (b, a), p) = (x, b, (l, omega arith, a, p))

mutual_below : (g : Graph) (l : List ℕ) → Mutual g l → AllBelow g.members l
mutual_below g [] m = tt
mutual_below g (x ∷ l) (b, f, m) = (b, mutual_below g l m)

module _ (g : Graph) (inside : Inside g) where
  pub is_within_lem : (k u v : ℕ) → Says (is_within g k u v) (Within g k u v)
  unfolding is_within
  is_within_lem zero u v = iff (λ e. ([], omega arith, e)) from (is_eq u v)
    where
      from : Within g 0 u v → u ≡ v
      from ([], b, e) = e
      from (x ∷ l, b, e) = absurd (omega arith)
  is_within_lem (suc k) u v =
      iff to from (disj (is_eq u v) (is_some (λ m. conj (is_true (g.friends u m)) (is_within_lem k m v)) g.members))
    where
      Next : Type 0
      Next = (m : ℕ) × (m < g.members) × (Friends g u m × Within g k m v)

      to : (u ≡ v) ⊎ Next → Within g (suc k) u v
      to (inl e) = ([], omega arith, e)
      to (inr (m, b, (f, (l, c, w)))) = (m ∷ l, omega arith, (f, w))

      from : Within g (suc k) u v → (u ≡ v) ⊎ Next
      from ([], b, e) = inl e
      from (x ∷ l, b, (f, w)) = inr (x, inside u x f, (f, (l, omega arith, w)))

  is_friend_of_all : (x : ℕ) (l : List ℕ) → Says (friend_of_all g x l) (FriendOfAll g x l)
  unfolding friend_of_all
  is_friend_of_all x [] = says tt
  is_friend_of_all x (y ∷ l) =
      iff (λ (a, (b, c)). (a, b, c)) (λ (a, b, c). (a, (b, c)))
      (conj (negated (is_eq x y)) (conj (is_true (g.friends x y)) (is_friend_of_all x l)))

  is_mutual : (l : List ℕ) → Says (all_friends g l) (Mutual g l)
  unfolding all_friends
  is_mutual [] = says tt
  is_mutual (x ∷ l) =
      iff (λ (a, (b, c)). (a, b, c)) (λ (a, b, c). (a, (b, c)))
      (conj (is_lt x g.members) (conj (is_friend_of_all x l) (is_mutual l)))

  is_clique_lem : (k u v : ℕ) → Says (is_clique g k u v) (Clique g k u v)
  unfolding is_clique
  is_clique_lem k u v =
      iff (λ (l, e, b, (m, (x, y))). (l, e, m, x, y)) (λ (l, e, m, x, y). (l, e, mutual_below g l m, (m, (x, y))))
      (is_some_list g.members k (λ l. conj (is_mutual l) (conj (is_among u l) (is_among v l))))

  is_on_side : (s : Side) (u v : ℕ) → Says (on_side s u v) (OnSide s u v)
  unfolding on_side
  is_on_side any_side u v = says tt
  is_on_side owner_lesser u v = is_lt u v
  is_on_side owner_greater u v = is_lt v u

  pub is_admitted : (p : Policy) (u v : ℕ) → Says (admits g p u v) (Admits g p u v)
  unfolding admits
  is_admitted no_one u v = says (λ h. h)
  is_admitted everyone u v = says tt
  is_admitted owner_only u v = is_eq u v
  is_admitted (within k) u v = is_within_lem k u v
  is_admitted (known k) u v = disj (is_eq u v) (disj (is_true (g.friends u v)) (is_le k (shared g u v)))
  is_admitted (clique k) u v = disj (is_eq u v) (is_clique_lem k u v)
  is_admitted (state bits side) u v = conj (is_true (g.in_set bits u v)) (is_on_side side u v)
  is_admitted (both p q) u v = conj (is_admitted p u v) (is_admitted q u v)
  is_admitted (either p q) u v = disj (is_admitted p u v) (is_admitted q u v)
