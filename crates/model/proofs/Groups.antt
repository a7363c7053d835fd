-- Laws of groups: who is one by a scheme's bytes, and what groups change.
use Prim.Native.Nat.{ℕ, zero, suc, ◌+◌, ◌<◌, ◌≤◌}
use mathlib.Core.Path.{◌≡◌, refl, sym, ap}
use mathlib.Core.Bool.{Bool, true, false, ◌&&◌, not, and-true}
use mathlib.Core.List.{List}
use mathlib.Core.Logic.{inl, inr}
use native.Mathlib.Omega.{arith}
use native.Mathlib.Decide.{dec_lt}
use lib.Dec.{eqb}
use lib.ListN.{length, get_or-eq_default}
use Rattle.model.specs.Bytes.{byte}
use Rattle.model.specs.Graph.{Graph, Friends, Within, Degree, friendships, none, IsDegree, one, count, shared, Clique}
use Rattle.model.specs.Network.{held, world}
use Rattle.model.specs.SchemeBytes.{n, at6, scheme_of, Sixth, Records, BytesFit}
use Rattle.model.proofs.Counting.{count_ext, count_some}
use Rattle.model.proofs.Deciding.{is_true, conj}

-- what is judged on a network has the groups that the scheme's bytes say
pub groups_judged : (b net : List ℕ) (m : ℕ) → (world (scheme_of b) (held (scheme_of b) net)).graph.group m ≡ eqb (byte b (at6 b + 4 + m)) 1
groups_judged b net m = refl

-- without a sixth record all are persons
pub all_persons : (b : List ℕ) → length b ≡ at6 b → (m : ℕ) → (scheme_of b).group m ≡ false
all_persons b e m =
    let h : length b ≤ at6 b + 4 + m = omega (arith, e) in
    ap (λ (x : ℕ). eqb x 1) (get_or-eq_default b 0 h)

-- behind the last member's byte there is none
past_end : (b : List ℕ) → Records b → (m : ℕ) → n b ≤ m → byte b (at6 b + 4 + m) ≡ 0
past_end b r m l = go r.groups
  where
    go : Sixth b → byte b (at6 b + 4 + m) ≡ 0
    go (inl e) = let h : length b ≤ at6 b + 4 + m = omega (arith, e) in get_or-eq_default b 0 h
    go (inr s) = let h : length b ≤ at6 b + 4 + m = omega (arith, s, l) in get_or-eq_default b 0 h

-- nobody but a member is a group
pub group_member : (b : List ℕ) → Records b → (m : ℕ) → n b ≤ m → (scheme_of b).group m ≡ false
group_member b r m l = ap (λ (x : ℕ). eqb x 1) (past_end b r m l)

-- a byte is 1 for a group and 0 for a person
pub group_byte : (b : List ℕ) → Records b → BytesFit b → (m : ℕ) → byte b (at6 b + 4 + m) ≡ one ((scheme_of b).group m)
group_byte b r f m = flag (byte b (at6 b + 4 + m)) (small (dec_lt m (n b)))
  where
    small : Dec (m < n b) → byte b (at6 b + 4 + m) ≤ 1
    small (yes h) = f.groups m h
    small (no h) = omega (arith, past_end b r m (omega arith))

    flag : (x : ℕ) → x ≤ 1 → x ≡ one (eqb x 1)
    flag zero l = refl
    flag (suc zero) l = refl
    flag (suc (suc x)) l = absurd (omega arith)

-- the graph with other groups
abbrev regrouped : Graph → (ℕ → Bool) → Graph
regrouped g group = record { members = g.members; friends = g.friends; in_set = g.in_set; group = group }

-- within, cliques and degrees go on using groups
pub groups_used : (g : Graph) (group : ℕ → Bool) (k u v : ℕ) (d : Degree)
    → (Within (regrouped g group) k u v ≡ Within g k u v)
    × (Clique (regrouped g group) k u v ≡ Clique g k u v)
    × (IsDegree (regrouped g group) u v d ≡ IsDegree g u v d)
groups_used g group k u v (friendships d) = (refl, refl, refl)
groups_used g group k u v none = (refl, refl, refl)

-- where all are persons, every friend of both is shared
pub shared_by_persons : (g : Graph) (u v : ℕ) → ((m : ℕ) → g.group m ≡ false) → shared g u v ≡ count (λ m. g.friends u m && g.friends v m) g.members
shared_by_persons g u v p = count_ext _ _ g.members (λ m h. rw (p m) (and-true _))

-- where some are shared, a person is
pub shared_some : (g : Graph) (u v : ℕ) → 1 ≤ shared g u v → (x : ℕ) × (x < g.members) × Friends g u x × Friends g v x × (g.group x ≡ false)
shared_some g u v h =
    let (x, b, t) = count_some (λ m. g.friends u m && g.friends v m && not (g.group m)) g.members h in
    let ((p, q), n) = (conj (conj (is_true (g.friends u x)) (is_true (g.friends v x))) (is_true (not (g.group x)))).yes_if t in
    (x, b, p, q, person (g.group x) n)
  where
    person : (t : Bool) → not t ≡ true → t ≡ false
    person true e = sym e
    person false e = refl
