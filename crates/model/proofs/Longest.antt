-- The longest accepted scheme: all counts at their greatest, and a sixth record.
use Prim.Native.Nat.{ℕ, zero, suc, ◌+◌, ◌*◌}
use mathlib.Core.Path.{◌≡◌, refl}
use mathlib.Core.Bool.{true, ◌||◌}
use mathlib.Core.List.{List, [], ◌∷◌, ◌++◌}
use mathlib.Core.Logic.{inr}
use native.Mathlib.Omega.{arith}
use lib.Dec.{eqb, leb, ltb}
use lib.ListN.{length, replicate}
use Rattle.model.specs.Bytes.{byte, four}
use Rattle.model.specs.Scheme.{lowest_from}
use Rattle.model.specs.SchemeBytes.{policies, scheme_needs, Accepted, at2, at3, at5, at6, S, P, field, longest_scheme}
use Rattle.model.proofs.Computing.{every}
use Rattle.model.proofs.Answering.{met_granted}
use Rattle.model.proofs.Deciding.{is_eq, is_lt, is_le, disj, every_holds}
use Rattle.model.proofs.StandardRead.{fits, policy_fits, mask_test, mask_fits}

-- so many masks of policy 0
masks_of : ℕ → List ℕ
masks_of zero = []
masks_of (suc k) = 1 ∷ 0 ∷ 0 ∷ 0 ∷ masks_of k

-- 256 members, 16 states without a move or a friend, 8 primitives, 16 items, 32 policies that admit nobody; no member is a group
longest : List ℕ
longest =
    (6 ∷ 0 ∷ 1 ∷ 0 ∷ 0 ∷ 1 ∷ 16 ∷ 8 ∷ 16 ∷ 32 ∷ [])
    ++ ((0 ∷ 1 ∷ 2 ∷ 0 ∷ replicate 256 255)
    ++ ((16 ∷ 0 ∷ 3 ∷ 0 ∷ replicate 16 0)
    ++ ((128 ∷ 0 ∷ 4 ∷ 0 ∷ replicate 128 0)
    ++ ((104 ∷ 0 ∷ 5 ∷ 0 ∷ masks_of 26)
    ++ (0 ∷ 1 ∷ 6 ∷ 0 ∷ replicate 256 0)))))

moves_fit : every (λ k. eqb (byte longest (at2 longest + 4 + k)) 255 || ltb (byte longest (at2 longest + 4 + k)) (S longest)) 256 ≡ true
unfolding every longest
moves_fit = refl

friends_fit : every (λ q. leb (byte longest (at3 longest + 4 + q)) 1) 16 ≡ true
unfolding every longest
friends_fit = refl

policies_fit : every (λ p. fits (S longest) p (field longest p 0) (field longest p 1) (field longest p 2) (field longest p 3)) 32 ≡ true
unfolding every longest fits
policies_fit = refl

masks_fit : every (λ r. mask_test (P longest) (four longest (at5 longest + 4 + r * 4))) 26 ≡ true
unfolding every longest masks_of
masks_fit = refl

groups_fit : every (λ m. leb (byte longest (at6 longest + 4 + m)) 1) 256 ≡ true
unfolding every longest masks_of
groups_fit = refl

longest_accepted : Accepted longest
unfolding longest masks_of policies lowest_from
longest_accepted =
    met_granted (scheme_needs longest) (
      (omega arith, refl, refl),
      (
        record { members = omega arith; states = omega arith; primitives = omega arith; items = omega arith; policies = omega arith },
        (
          record {
            moves = (omega arith, refl, refl);
            friends = (omega arith, refl, refl);
            policies = (omega arith, refl, refl);
            masks = (omega arith, refl, refl);
            groups = inr ((omega arith, refl, refl), omega arith);
          },
          (
            record {
              moves = λ k h. (disj (is_eq (byte longest (at2 longest + 4 + k)) 255) (is_lt (byte longest (at2 longest + 4 + k)) (S longest))).yes_if (every_holds _ 256 moves_fit k h);
              friends = λ q h. (is_le (byte longest (at3 longest + 4 + q)) 1).yes_if (every_holds _ 16 friends_fit q h);
              policies = λ p h. policy_fits (S longest) p (field longest p 0) (field longest p 1) (field longest p 2) (field longest p 3) (every_holds _ 32 policies_fit p h);
              masks = λ r h. mask_fits (P longest) (four longest (at5 longest + 4 + r * 4)) (every_holds _ 26 masks_fit r h);
              groups = λ m h. (is_le (byte longest (at6 longest + 4 + m)) 1).yes_if (every_holds _ 256 groups_fit m h);
            },
            (record { unmarked = refl; unsearched = λ m u v n h. h }, tt),
          ),
        ),
      ),
    )

-- there is one of just as many bytes
pub longest_reached : (b : List ℕ) × Accepted b × (length b ≡ longest_scheme)
unfolding longest masks_of
longest_reached = (longest, longest_accepted, refl)
