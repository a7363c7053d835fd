-- The standard scheme's tables, held against what they mean.
use Prim.Native.Nat.{ℕ}
use mathlib.Core.Path.{◌≡◌, refl, subst}
use mathlib.Core.Bool.{Bool, true, false, not, false≢true}
use mathlib.Core.List.{[]}
use lib.Dec.{eqb}
use lib.ListN.{get_or}
use borrow.Author.Tests.{eqb-true}
use Rattle.model.specs.Bytes.{bit}
use Rattle.model.specs.Decides.{Decides}
use Rattle.model.specs.Graph.{count}
use Rattle.model.specs.Policies.{Admits}
use Rattle.model.specs.Network.{world}
use Rattle.model.specs.Standard.{standard}
use Rattle.model.specs.Meaning.{meant_move, meant_offer, trial, trial_admits, is_in, StandardMeant}
use Rattle.model.proofs.Computing.{some, every, among, is_within, friend_of_all, all_friends, some_list, is_clique, on_side, admits}
use Rattle.model.proofs.Deciding.{decided, every_holds, is_admitted}
use Rattle.model.proofs.Judging.{world_inside}

same : Bool → Bool → Bool
same true b = b
same false b = not b

same_is : (a b : Bool) → same a b ≡ true → a ≡ b
unfolding same
same_is true true e = refl
same_is true false e = absurd (false≢true e)
same_is false true e = absurd (false≢true e)
same_is false false e = refl

moves_meant : (n : ℕ) → every (λ q. every (λ b. every (λ a. eqb ((standard n).move q b a) (meant_move q b a)) 4) 2) 4 ≡ true
unfolding every
moves_meant n = refl

masks_meant : (n : ℕ) → every (λ r. every (λ p. same (bit ((standard n).mask r) p) (meant_offer r p)) 32) 9 ≡ true
unfolding every same
masks_meant n = refl

policies_meant : (n : ℕ)
    → every (λ p. every (λ u. every (λ v. same (admits (world (standard 5) trial).graph ((standard n).policy p) u v) (is_in v (get_or (get_or trial_admits p []) u []))) 5) 5) 13 ≡ true
unfolding every same some among is_within friend_of_all all_friends some_list is_clique on_side admits count
policies_meant n = refl

pub standard_meant : (n : ℕ) → StandardMeant n
standard_meant n = record {
  moves = λ q b a x y z. eqb-true ((standard n).move q b a) (meant_move q b a) (every_holds _ 4 (every_holds _ 2 (every_holds _ 4 (moves_meant n) q x) b y) a z);
  masks = λ r p x y. same_is (bit ((standard n).mask r) p) (meant_offer r p) (every_holds _ 32 (every_holds _ 9 (masks_meant n) r x) p y);
  policies = λ p u v x y z.
      subst (λ (t : Bool). Decides t (Admits (world (standard 5) trial).graph ((standard n).policy p) u v))
      (same_is (admits (world (standard 5) trial).graph ((standard n).policy p) u v) (is_in v (get_or (get_or trial_admits p []) u []))
      (every_holds _ 5 (every_holds _ 5 (every_holds _ 13 (policies_meant n) p x) u y) v z))
      (decided (is_admitted (world (standard 5) trial).graph (world_inside (standard 5) trial) ((standard n).policy p) u v));
}
