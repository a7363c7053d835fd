-- The members to whom a chain goes on from an expanded one are marked, turn by turn.
use Prim.Native.Nat.{ℕ, ◌+◌, ◌-◌, ◌<◌, ◌≤◌, min}
use mathlib.Core.Path.{◌≡◌, refl, sym, ap, subst, ◌∙◌}
use mathlib.Core.Bool.{Bool, false}
use mathlib.Core.List.{List, [], ◌∷◌, ◌++◌}
use mathlib.Core.Logic.{◌⊎◌, inl, ⊎_elim}
use native.Mathlib.Decide.{dec_lt}
use native.Mathlib.Omega.{arith}
use lib.Dec.{eqb}
use lib.ListN.{get_or, set, length-set}
use borrow.Author.Tests.{eqb-false}
use Rattle.std.proofs.Common.{Option, None, Some}
use Rattle.std.specs.Option.{option_eq, unwrap_or}
use Rattle.model.specs.Graph.{Graph, Friends}
use Rattle.model.specs.Finding.{World, paths, Goes, Finds, Allows}
use Rattle.model.specs.SchemeBytes.{n}
use Rattle.model.proofs.Walking.{further}
use Rattle.next_friend.specs.First.{FirstMarked}
use Rattle.next_friend.proofs.Spreading.{marked_to}
use Rattle.prepared.specs.Asking.{Asking, world_asked, graph_asked}
use Rattle.starts.specs.Starts.{StartsAdded}
use Rattle.starts.proofs.OneStored.{Stored, one_stored}
use Rattle.starts.proofs.StartsMarked.{add, skip_to, starts_as}
use Rattle.walk.specs.Walks.{sought, NobodyWaits, AllSeen, Met, Expanded, Unmet, WalkFor}
use Rattle.walk.proofs.SumsFall.{sum_below, one_falls}

-- what is left to do: two steps for an unseen member, one for a waiting one
abbrev pub undone : ℕ → List ℕ → ℕ
undone n seen = sum_below (λ (k : ℕ). 2 - get_or seen k 0) n

-- k is another than the member named
pub not_sought : (n k : ℕ) {r : Bool} (u : Option ℕ) → k < n → r ≡ option_eq eqb (Some k) u → r ≡ false → k ≡ sought n u → ⊥
not_sought n k None l e y h = omega arith
not_sought n k (Some x) l e y h = eqb-false k x (sym e ∙ y) h

module _ {g : Graph} {m s i low : ℕ} {before seen : List ℕ} (x : Expanded g m s before i low seen) where
  -- up to r, all friends are seen
  pub expand_to : {r : ℕ} → ((k : ℕ) → k < r → i ≤ k → Friends g m k → 1 ≤ get_or seen k 0) → Expanded g m s before r low seen
  expand_to h = record { added = skip_to x.added h; least = x.least; same = x.same; passed = x.passed }

  -- i is an unseen friend, and another than s
  pub expand_mark : g.members ≤ 256 → i < g.members → Friends g m i → get_or seen i 0 ≡ 0 → (i ≡ s → ⊥) → Expanded g m s before (i + 1) (min low i) (set seen i 1)
  expand_mark small b f z n = record {
    added = add x.added small b z f;
    least = omega (arith, x.least);
    same = λ k a. ⊎_elim (λ q. absurd (omega (arith, q.0))) (λ q. q.1 ∙ x.same k (omega arith)) (at k);
    passed = λ a e. ⊎_elim (λ q. absurd (n (sym q.0))) (λ q. q.1 ∙ x.passed a e) (at s);
  }
    where
      at : (k : ℕ) → Stored seen i 1 k
      at = one_stored seen i 1 x.added.long (omega arith)

-- m, the first that waits, is next to be expanded
pub record Chosen (w : World) (v u m : ℕ) (first seen : List ℕ) : Type 0 where
  pub walking : WalkFor w v u first seen
  pub small : w.graph.members ≤ 256
  pub member : m < w.graph.members
  pub waits : get_or seen m 0 ≡ 1
  pub nobody : NobodyWaits m seen

-- everyone below the first unseen is seen
pub first_unseen : {from end x : ℕ} (seen : List ℕ) (r : Option ℕ) → AllSeen from seen → FirstMarked 0 seen from end r → x ≡ unwrap_or r end
    → (x ≤ end) × AllSeen x seen
first_unseen seen None a f e = (omega arith, rw e (marked_to seen a f))
first_unseen seen (Some i) a f e = (omega (arith, f.1), rw e (marked_to seen a f.3))

-- b is a as its world has it
module _ {a b : Asking} {members : ℕ} (same : b ≡ a) (counted : members ≡ n b.scheme) where
  -- what is told of b
  pub asked : (P : Graph → ℕ → Type 0) → P (graph_asked b) members → P (graph_asked a) (n a.scheme)
  asked P x = subst (λ c. P (graph_asked c) (n c.scheme)) same (rw counted at x)

  -- the first that waits before the last member, where nobody does below a member
  pub chosen : {v u low last m : ℕ} {first seen : List ℕ} → (last ≡ members) × (last ≤ 256) → WalkFor (world_asked a) v u first seen
      → NobodyWaits low seen
      → FirstMarked 1 seen low last (Some m)
      → (last ≡ n a.scheme) × Chosen (world_asked a) v u m first seen
  chosen {low = low} {last = last} (e, small) x none f =
      let all : last ≡ n a.scheme = e ∙ counted ∙ ap (λ (c : Asking). n c.scheme) same in (
        all,
        record {
          walking = x;
          small = omega (arith, all);
          member = omega (arith, all, f.1);
          waits = f.2;
          nobody = λ k a. elim (dec_lt k low) [ yes l ↦ none k l | no l ↦ f.3 k (omega arith) a ];
        },
      )

module _ {w : World} {v u m : ℕ} {first seen : List ℕ} (h : Chosen w v u m first seen) where
  -- m is expanded
  abbrev marked : List ℕ
  marked = set seen m 2

  at : (k : ℕ) → Stored seen m 2 k
  at = one_stored seen m 2 h.walking.walk.long (omega (arith, h.small, h.member))

  pub still_unmet : Unmet w u marked
  still_unmet a = let z = h.walking.unmet a in ⊎_elim (λ q. let y = rw q.0 at z in omega (arith, h.waits)) (λ q. omega arith) (at u)

  pub still_seen : {i : ℕ} → AllSeen i seen → AllSeen i marked
  still_seen s k a = let y = s k a in ⊎_elim (λ q. omega arith) (λ q. omega arith) (at k)

  pub nobody_else : {low : ℕ} (next : List ℕ) → low ≤ m + 1 → ((k : ℕ) → k < low → get_or next k 0 ≡ get_or marked k 0) → NobodyWaits low next
  nobody_else next b same k a p = let e = same k a in ⊎_elim (λ q. absurd (omega arith)) (λ q. h.nobody k (omega arith) (omega arith)) (at k)

  -- the members to whom a chain goes on from m are seen
  module _ {next : List ℕ} (y : StartsAdded w.graph.members (λ k. Goes (paths w) v m k) marked w.graph.members next) where
    raised : (k : ℕ) → k < w.graph.members → get_or marked k 0 ≤ get_or next k 0
    raised k a = ⊎_elim (λ e. omega arith) (λ e. omega arith) (y.each k a)

    pub all_seen : {i : ℕ} → i ≤ w.graph.members → AllSeen i marked → AllSeen i next
    all_seen b s k a = omega (arith, s k a, raised k (omega arith))

    own : Finds w v m
    own = h.walking.walk.sound m h.member (omega (arith, h.waits))

    -- so the walk goes on
    pub walk_on : Unmet w u next → WalkFor w v u first next
    walk_on unmet = record {
      walk = record {
        long = y.long;
        sound = λ k a p.
            ⊎_elim
            (λ e. ⊎_elim (λ q. rw q.0 own) (λ q. h.walking.walk.sound k a (omega arith)) (at k))
            (λ e. let (j, l, s, o) = own in (j, l ++ k ∷ [], s, further (Goes (paths w) v) j l m k o e.2))
            (y.each k a);
        closed = λ j k a p g.
            ⊎_elim
            (λ e.
            ⊎_elim (λ q. y.added k g.0 (rw q.0 at g))
            (λ q. let z = h.walking.walk.closed j k a (omega arith) g in let r = raised k g.0 in ⊎_elim (λ q. omega arith) (λ q. omega arith) (at k))
            (at j))
            (λ e. absurd (omega arith))
            (y.each j a);
      };
      kept = λ k a.
          let p = h.walking.kept k a in
          let r = raised k a in
          ⊎_elim (λ q. let s : get_or seen k 0 ≡ 1 = rw q.0 h.waits in omega arith) (λ q. omega arith) (at k);
      unmet = unmet;
    }

    -- and less is left to do
    pub less : undone w.graph.members next < undone w.graph.members seen
    less =
        one_falls _ _ w.graph.members m h.member
        (let r = raised m h.member in ⊎_elim (λ q. omega (arith, h.waits)) (λ q. absurd (q.0 refl)) (at m))
        (λ k a.
        let r = raised k a in
        ⊎_elim (λ q. let e : get_or seen k 0 ≡ 1 = rw q.0 h.waits in omega arith) (λ q. omega arith) (at k))

  -- where m's traversal setting refuses, or nobody is unseen, nobody is added
  pub none_added : (Allows w m 1 v → ⊥) ⊎ AllSeen w.graph.members marked → StartsAdded w.graph.members (λ k. Goes (paths w) v m k) marked w.graph.members marked
  none_added x = record { long = simp length-set h.walking.walk.long; added = λ k a g. ⊎_elim (λ n. absurd (n g.2)) (λ s. s k a) x; each = λ k a. inl refl }

  module _ (allowed : Allows w m 1 v) where
    -- where it admits, its friends are
    pub friends_added : {low : ℕ} {next : List ℕ} → Expanded w.graph m u marked w.graph.members low next
        → StartsAdded w.graph.members (λ k. Goes (paths w) v m k) marked w.graph.members next
    friends_added x = starts_as (λ k a f. (a, f, allowed)) (λ k g. g.1) x.added

    pub passed_by : {low : ℕ} {next : List ℕ} → Expanded w.graph m u marked w.graph.members low next → Unmet w u next
    passed_by x a = x.passed a (still_unmet a)

    -- or u is found
    pub met_found : Met w.graph m u → Finds w v u
    met_found (b, f) =
        let (j, l, s, o) = h.walking.walk.sound m h.member (omega (arith, h.waits)) in
        (j, l ++ u ∷ [], s, further (Goes (paths w) v) j l m u o (b, f, allowed))
