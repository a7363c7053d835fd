-- Where a walk ends, exactly the members are seen whom the viewer finds.
use Prim.Native.Nat.{ℕ, ◌<◌, ◌≤◌}
use mathlib.Core.Path.{◌≡◌, refl}
use mathlib.Core.Bool.{Bool, true, false}
use mathlib.Core.List.{List, [], ◌∷◌}
use mathlib.Core.Logic.{inl, inr, ⊎_elim, ◌↔◌}
use native.Mathlib.Omega.{arith}
use lib.ListN.{get_or}
use Rattle.model.specs.Graph.{Onward}
use Rattle.model.specs.Finding.{World, paths, Begins, Goes, Finds, Allows}
use Rattle.model.specs.Decides.{Decides}
use Rattle.model.proofs.Deciding.{decided, said_yes, said_no}
use Rattle.model.proofs.Walking.{found_member}
use Rattle.starts.specs.Starts.{Begun, SearchAdded}
use Rattle.walk.specs.Walks.{Walk, Unmet, WalkFor, WalkEnded, Walked}
use Rattle.finding.specs.Everyone.{Everyone}

module _ (w : World) (v : ℕ) where
  found_first : (k : ℕ) → Begins (paths w) v k → Finds w v k
  found_first k b = (k, [], b, refl)

  -- a set that steps do not leave
  stays : (S : ℕ → Type 0) → ((j k : ℕ) → j < w.graph.members → S j → Goes (paths w) v j k → S k)
      → (m : ℕ) (l : List ℕ) (u : ℕ) → m < w.graph.members → S m → Onward (Goes (paths w) v) m l u → S u
  stays S go m [] u b s e = rw (← e) s
  stays S go m (k ∷ l) u b s (g, o) = stays S go k l u g.0 (go m k b s g) o

  -- what the answer about u's search setting says
  module _ (u : ℕ) {a : Bool} (d : Decides a (Allows w u 0 v)) where
    pub found_allowed : u < w.graph.members → a ≡ true → Finds w v u
    found_allowed b y = found_first u (b, inr (inr (said_yes y d)))

    pub not_allowed : a ≡ false → Allows w u 0 v → ⊥
    not_allowed n = said_no n d

-- every member at which a chain may begin is seen
abbrev AllStartsSeen : World → ℕ → List ℕ → Type 0
AllStartsSeen w v seen = (k : ℕ) → Begins (paths w) v k → 1 ≤ get_or seen k 0

module _ {w : World} {v u : ℕ} {before seen : List ℕ} (x : WalkEnded w v u before seen) (s : AllStartsSeen w v before) where
  -- where nobody waits, all who are found are seen
  all_seen : (k : ℕ) → Finds w v k → 1 ≤ get_or seen k 0
  all_seen k (m, l, b, o) =
      stays w v (λ (j : ℕ). 1 ≤ get_or seen j 0)
      (λ i j a h g. x.walking.walk.closed i j a (omega (arith, x.nobody i a)) g) m l k b.0 (omega (arith, s m b, x.walking.kept m b.0)) o

  -- and nobody else
  exactly_seen : (k : ℕ) → k < w.graph.members → (1 ≤ get_or seen k 0) ↔ Finds w v k
  exactly_seen k b = (x.walking.walk.sound k b, all_seen k)

  not_found : u < w.graph.members → Finds w v u → ⊥
  not_found b f = omega (arith, all_seen u f, x.walking.unmet b)

-- a walk for nobody goes on to its end
pub walk_ends : {w : World} {v u : ℕ} {before seen : List ℕ} {met : Bool} → Walked w v u before seen met → w.graph.members ≤ u
    → WalkEnded w v u before seen
walk_ends {w} {v} {u} {before} {seen} {met} x b = go met x.found x.ended
  where
    go : (met : Bool) → (met ≡ true → Finds w v u) → (met ≡ false → WalkEnded w v u before seen) → WalkEnded w v u before seen
    go true f e = absurd (omega (arith, found_member w v u (f refl)))
    go false f e = e refl

-- the viewer and its friends are a walk's beginning
pub begun_walk : {w : World} {v : ℕ} {seen : List ℕ} → Begun w v seen → Walk w v seen
begun_walk {w} {v} x = record {
  long = x.long;
  sound = λ k b h. found_first w v k (b, ⊎_elim (λ e. inl e) (λ f. inr (inl f)) ((x.exactly k b).0 h));
  closed = λ j k b h g. absurd (omega (arith, x.low j b));
}

module _ {w : World} {v u i : ℕ} {first before seen : List ℕ} (x : WalkFor w v u first before) (s : SearchAdded w v before i seen) where
  -- the walk goes on with those who are found by search
  pub searched_walk : Walk w v seen
  searched_walk = record {
    long = s.long;
    sound = λ k b h.
        ⊎_elim (λ e. x.walk.sound k b (omega arith)) (λ e. found_first w v k (b, inr (inr e.2))) (s.each k b);
    closed = λ j k b h g.
        ⊎_elim
        (λ e. let y = x.walk.closed j k b (omega arith) g in ⊎_elim (λ q. omega arith) (λ q. omega arith) (s.each k g.0))
        (λ e. absurd (omega arith))
        (s.each j b);
  }

  -- u is none of them
  pub searched_unmet : (u < w.graph.members → Allows w u 0 v → ⊥) → Unmet w u seen
  searched_unmet n b = ⊎_elim (λ e. let q = x.unmet b in omega arith) (λ e. absurd (n b e.2)) (s.each u b)

  searched_starts : i ≡ w.graph.members → Begun w v first → AllStartsSeen w v seen
  searched_starts e y j (b, h) =
      ⊎_elim (λ e. still ((y.exactly j b).1 (inl e))) (λ h. ⊎_elim (λ f. still ((y.exactly j b).1 (inr f))) (λ a. s.added j (omega arith) a) h) h
    where
      still : 1 ≤ get_or first j 0 → 1 ≤ get_or seen j 0
      still p = let q = x.kept j b in ⊎_elim (λ e. omega arith) (λ e. omega arith) (s.each j b)

-- begin, walk, search, walk
module _ {w : World} {v u i : ℕ} {first second third last : List ℕ} {met : Bool} (x : Begun w v first) (y : WalkEnded w v u first second)
    (s : SearchAdded w v second i third)
    (e : i ≡ w.graph.members)
    (z : Walked w v u third last met) where
  -- for a member, this decides whether the viewer finds it
  pub walks_decide : u < w.graph.members → Decides met (Finds w v u)
  walks_decide b = decided record { yes_if = z.found; no_if = λ n. not_found (z.ended n) (searched_starts y.walking s e x) b }

-- a walk for nobody, where it begins
begun_for : {w : World} {v u : ℕ} {first : List ℕ} → w.graph.members ≤ u → Begun w v first → WalkFor w v u first first
begun_for nobody x = record { walk = begun_walk x; kept = λ k b. omega arith; unmet = λ b. absurd (omega arith) }

-- begin, search and walk, for a number that no member has: everyone whom the viewer finds is seen at the end, and nobody else
module _ {w : World} {v i : ℕ} {first second : List ℕ} (x : Begun w v first) (s : SearchAdded w v first i second) where
  pub searched_begun : Walk w v second
  searched_begun = searched_walk {u = w.graph.members} (begun_for (omega arith) x) s

  pub everyone_found : {u : ℕ} {met : Bool} {last : List ℕ} → i ≡ w.graph.members → w.graph.members ≤ u → Walked w v u second last met
      → Everyone w v last
  everyone_found e nobody z = record {
    long = (walk_ends z nobody).walking.walk.long;
    exactly = exactly_seen (walk_ends z nobody) (searched_starts (begun_for nobody x) s e x);
  }
