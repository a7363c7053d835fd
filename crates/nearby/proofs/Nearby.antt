-- Who shares a friend with a member: the friends of its friends that are persons.
use Prim.Native.Nat.{ℕ, ◌+◌, ◌<◌, ◌≤◌}
use mathlib.Core.Path.{◌≡◌, ap, ap₂, ◌∙◌}
use mathlib.Core.Bool.{Bool, ◌&&◌, not, or-true}
use mathlib.Core.List.{List}
use native.Mathlib.Omega.{arith}
use Rattle.model.specs.Graph.{Graph, Friends}
use Rattle.model.proofs.Groups.{shared_some}
use Rattle.nearby.proofs.Passing.{Passed, passed_one}
use Rattle.sets.specs.Rows.{row_bit, FriendRow, PersonRow}
use Rattle.sets.specs.Sets.{Has, Meet, Join, FirstFrom}
use Rattle.nearby.specs.Near.{FriendsOf, Near}

-- the set has all friends of u
pub record Around (g : Graph) (set : List ℕ) (u : ℕ) : Type 0 where
  pub has : (m : ℕ) → m < g.members → Friends g u m → Has set m

module _ {g : Graph} (few : g.members ≤ 256) where
  pub near_everybody : {set : List ℕ} → ((m : ℕ) → m < 256 → Has set m) → (v : ℕ) → Near g v set
  near_everybody h v = record { has = λ m b s. h m (omega arith) }

  -- m's friends too
  pub around_next : {friends all row more : List ℕ} {from m : ℕ} → Passed friends from (Around g all) → FirstFrom friends from m → FriendRow g m row → Join all row more
      → Passed friends (m + 1) (Around g more)
  around_next {all = all} p f row j =
      passed_one f record { each = λ k b h. record { has = λ y l o. j.bits y ∙ rw ((p.each k b h).has y l o) } }
      record { has = λ y l o. j.bits y ∙ rw (row.bits y (omega arith) ∙ o) (or-true (row_bit all y)) }

  pub all_friends : {some all : List ℕ} {m : ℕ} → Passed some m (Around g all) → g.members ≤ m → FriendsOf g some all
  all_friends p l = record { has = λ x m b c h f. (p.each x (omega arith) h).has m c f }

  -- whoever shares a friend with v is a friend of one of v's friends that are persons
  pub near_friends : {friends persons some all : List ℕ} → ((x y : ℕ) → g.friends x y ≡ g.friends y x) → PersonRow g persons → Meet friends persons some → FriendsOf g some all
      → (v : ℕ)
      → FriendRow g v friends
      → Near g v all
  near_friends {friends} {persons} both who meet of v own = record {
    has = λ m b s.
        let (x, d, a, c, n) = shared_some g v m s in
        of.has x m d b (meet.bits x ∙ ap₂ (λ (y z : Bool). y && z) (own.bits x (omega arith) ∙ a) (who.bits x (omega arith) ∙ ap not n)) (both x m ∙ c);
  }
