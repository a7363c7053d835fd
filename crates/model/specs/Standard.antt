-- The standard scheme, as tables and as bytes (docs/reference.md, "The standard scheme").
use Rattle.std.specs.Prelude.{ℕ, ◌+◌, ◌/◌, ◌%◌, ◌^◌, ◌<◌, ◌≡◌, ◌&&◌, false, cond, List, [], ◌∷◌, ◌++◌, eqb, get_or}
use Rattle.model.specs.Policies.{Policy, no_one, everyone, owner_only, within, state, either, owner_lesser, owner_greater}
use Rattle.model.specs.Scheme.{Scheme}
use Rattle.model.specs.SchemeBytes.{scheme_of}

-- state, side, primitive, next
abbrev pub Move : Type 0
Move = ℕ × ℕ × ℕ × ℕ

abbrev pub next_in : List Move → ℕ → ℕ → ℕ → ℕ
next_in [] q b a = 255
next_in ((q', b', a', next) ∷ moves) q b a = cond (eqb q q' && (eqb b b' && eqb a a')) next (next_in moves q b a)

abbrev pub standard_moves : List Move
standard_moves =
    (0, 0, 0, 2)
    ∷ (0, 1, 0, 1)
    ∷ (2, 1, 1, 3)
    ∷ (2, 1, 2, 0)
    ∷ (1, 0, 1, 3)
    ∷ (1, 0, 2, 0)
    ∷ (3, 0, 3, 0)
    ∷ (3, 1, 3, 0)
    ∷ []

-- policy 7: owner and accessor are invited and inviter, on either side
abbrev pub invited : Policy
invited = either (state (2 ^ 2) owner_lesser) (state (2 ^ 1) owner_greater)

abbrev pub standard_policies : List Policy
standard_policies =
    no_one
    ∷ owner_only
    ∷ within 1
    ∷ within 2
    ∷ everyone
    ∷ state (2 ^ 2) owner_lesser
    ∷ state (2 ^ 1) owner_greater
    ∷ invited
    ∷ either no_one invited
    ∷ either owner_only invited
    ∷ either (within 1) invited
    ∷ either (within 2) invited
    ∷ either everyone invited
    ∷ []

-- the mask of a list of policy numbers
abbrev pub mask_of : List ℕ → ℕ
mask_of [] = 0
mask_of (p ∷ l) = 2 ^ p + mask_of l

-- search, traversal, four primitives, three items
abbrev pub standard_masks : List ℕ
standard_masks =
    mask_of (8 ∷ 9 ∷ 10 ∷ 11 ∷ 12 ∷ [])
    ∷ mask_of (0 ∷ 1 ∷ 2 ∷ 3 ∷ 4 ∷ [])
    ∷ mask_of (0 ∷ 3 ∷ 4 ∷ [])
    ∷ mask_of (4 ∷ [])
    ∷ mask_of (4 ∷ [])
    ∷ mask_of (4 ∷ [])
    ∷ mask_of (8 ∷ 9 ∷ 10 ∷ 11 ∷ 12 ∷ [])
    ∷ mask_of (0 ∷ 1 ∷ 2 ∷ 3 ∷ 4 ∷ [])
    ∷ mask_of (0 ∷ 1 ∷ 2 ∷ 3 ∷ 4 ∷ [])
    ∷ []

abbrev pub standard : ℕ → Scheme
standard n = record {
  members = n;
  states = 4;
  primitives = 4;
  items = 3;
  move = next_in standard_moves;
  friendly = λ q. eqb q 3;
  policy = λ p. get_or standard_policies p no_one;
  mask = λ r. get_or standard_masks r 0;
  group = λ m. false;
}

-- counts: n members, S = 4, A = 4, I = 3, P = 13
abbrev pub standard_counts : ℕ → List ℕ
standard_counts n = 6 ∷ 0 ∷ 1 ∷ 0 ∷ n % 256 ∷ n / 256 ∷ 4 ∷ 4 ∷ 3 ∷ 13 ∷ []

abbrev pub standard_move_bytes : List ℕ
standard_move_bytes =
    32 ∷ 0 ∷ 2 ∷ 0
    ∷ 2 ∷ 255 ∷ 255 ∷ 255 ∷ 1 ∷ 255 ∷ 255 ∷ 255
    ∷ 255 ∷ 3 ∷ 0 ∷ 255 ∷ 255 ∷ 255 ∷ 255 ∷ 255
    ∷ 255 ∷ 255 ∷ 255 ∷ 255 ∷ 255 ∷ 3 ∷ 0 ∷ 255
    ∷ 255 ∷ 255 ∷ 255 ∷ 0 ∷ 255 ∷ 255 ∷ 255 ∷ 0
    ∷ []

abbrev pub standard_friend_bytes : List ℕ
standard_friend_bytes =
    4 ∷ 0 ∷ 3 ∷ 0
    ∷ 0 ∷ 0 ∷ 0 ∷ 1
    ∷ []

abbrev pub standard_policy_bytes : List ℕ
standard_policy_bytes =
    52 ∷ 0 ∷ 4 ∷ 0
    ∷ 0 ∷ 0 ∷ 0 ∷ 0
    ∷ 2 ∷ 0 ∷ 0 ∷ 0
    ∷ 3 ∷ 1 ∷ 0 ∷ 0
    ∷ 3 ∷ 2 ∷ 0 ∷ 0
    ∷ 1 ∷ 0 ∷ 0 ∷ 0
    ∷ 6 ∷ 1 ∷ 4 ∷ 0
    ∷ 6 ∷ 2 ∷ 2 ∷ 0
    ∷ 8 ∷ 0 ∷ 5 ∷ 6
    ∷ 8 ∷ 0 ∷ 0 ∷ 7
    ∷ 8 ∷ 0 ∷ 1 ∷ 7
    ∷ 8 ∷ 0 ∷ 2 ∷ 7
    ∷ 8 ∷ 0 ∷ 3 ∷ 7
    ∷ 8 ∷ 0 ∷ 4 ∷ 7
    ∷ []

abbrev pub standard_mask_bytes : List ℕ
standard_mask_bytes =
    36 ∷ 0 ∷ 5 ∷ 0
    ∷ 0 ∷ 31 ∷ 0 ∷ 0
    ∷ 31 ∷ 0 ∷ 0 ∷ 0
    ∷ 25 ∷ 0 ∷ 0 ∷ 0
    ∷ 16 ∷ 0 ∷ 0 ∷ 0
    ∷ 16 ∷ 0 ∷ 0 ∷ 0
    ∷ 16 ∷ 0 ∷ 0 ∷ 0
    ∷ 0 ∷ 31 ∷ 0 ∷ 0
    ∷ 31 ∷ 0 ∷ 0 ∷ 0
    ∷ 31 ∷ 0 ∷ 0 ∷ 0
    ∷ []

abbrev pub standard_bytes : ℕ → List ℕ
standard_bytes n = standard_counts n ++ (standard_move_bytes ++ (standard_friend_bytes ++ (standard_policy_bytes ++ standard_mask_bytes)))

-- read back, the bytes are the scheme that is listed above
pub record StandardRead (n : ℕ) : Type 0 where
  pub members : (scheme_of (standard_bytes n)).members ≡ n
  pub states : (scheme_of (standard_bytes n)).states ≡ 4
  pub primitives : (scheme_of (standard_bytes n)).primitives ≡ 4
  pub items : (scheme_of (standard_bytes n)).items ≡ 3
  pub moves : (q b a : ℕ) → q < 4 → b < 2 → a < 4 → (scheme_of (standard_bytes n)).move q b a ≡ (standard n).move q b a
  pub friends : (q : ℕ) → q < 4 → (scheme_of (standard_bytes n)).friendly q ≡ (standard n).friendly q
  pub policies : (p : ℕ) → (scheme_of (standard_bytes n)).policy p ≡ (standard n).policy p
  pub masks : (r : ℕ) → r < 9 → (scheme_of (standard_bytes n)).mask r ≡ (standard n).mask r
  pub groups : (m : ℕ) → (scheme_of (standard_bytes n)).group m ≡ (standard n).group m
