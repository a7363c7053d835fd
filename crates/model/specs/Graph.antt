-- Friendship graphs: walks, degrees, shared friends and cliques (docs/reference.md, "Policies").
use Rattle.std.specs.Prelude.{ℕ, zero, suc, ◌+◌, ◌<◌, ◌≤◌, ◌≡◌, Bool, true, false, ◌&&◌, not, List, [], ◌∷◌, ◌⊎◌, length}

-- what policies read: how many members there are, who are friends, whether the state of owner and accessor is in a set, and who is a group
pub record Graph : Type 0 where
  pub members : ℕ
  pub friends : ℕ → ℕ → Bool
  pub in_set : ℕ → ℕ → ℕ → Bool
  pub group : ℕ → Bool

abbrev pub Friends : Graph → ℕ → ℕ → Type 0
Friends g u v = g.friends u v ≡ true

-- from m the list goes on, a step to each member of it, and its last (m itself, where it is empty) is u
abbrev pub Onward : (ℕ → ℕ → Type 0) → ℕ → List ℕ → ℕ → Type 0
Onward Step m [] u = m ≡ u
Onward Step m (x ∷ l) u = Step m x × Onward Step x l u

-- a walk of at most k friendships joins u and v
abbrev pub Within : Graph → ℕ → ℕ → ℕ → Type 0
Within g k u v = (l : List ℕ) × (length l ≤ k) × Onward (Friends g) u l v

-- a number of friendships, or none
pub data Degree : Type 0 where
  friendships : ℕ → Degree
  none : Degree

-- the least number of friendships between u and v; none, where no walk of any length joins them
abbrev pub IsDegree : Graph → ℕ → ℕ → Degree → Type 0
IsDegree g u v (friendships d) = Within g d u v × ((k : ℕ) → Within g k u v → d ≤ k)
IsDegree g u v none = (k : ℕ) → Within g k u v → ⊥

abbrev pub one : Bool → ℕ
one true = 1
one false = 0

-- how many m below n have f m
unfoldable pub count : (ℕ → Bool) → ℕ → ℕ
count f zero = 0
count f (suc n) = count f n + one (f n)

-- the number of persons that are friends of both: members that are no groups
abbrev pub shared : Graph → ℕ → ℕ → ℕ
shared g u v = count (λ m. g.friends u m && g.friends v m && not (g.group m)) g.members

-- x is another than each of the list, and a friend of each
abbrev pub FriendOfAll : Graph → ℕ → List ℕ → Type 0
FriendOfAll g x [] = Unit {0}
FriendOfAll g x (y ∷ l) = (x ≡ y → ⊥) × Friends g x y × FriendOfAll g x l

-- different members that are all friends of each other
abbrev pub Mutual : Graph → List ℕ → Type 0
Mutual g [] = Unit {0}
Mutual g (x ∷ l) = (x < g.members) × FriendOfAll g x l × Mutual g l

abbrev pub Among : ℕ → List ℕ → Type 0
Among x [] = ⊥
Among x (y ∷ l) = (x ≡ y) ⊎ Among x l

-- k different members, u and v among them, are all friends of each other
abbrev pub Clique : Graph → ℕ → ℕ → ℕ → Type 0
Clique g k u v = (l : List ℕ) × (length l ≡ k) × Mutual g l × Among u l × Among v l
