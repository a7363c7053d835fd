-- A scheme's bytes and the scheme check (docs/reference.md, "Scheme", "Policies", "Scheme check").
use Rattle.std.specs.Prelude.{ℕ, zero, suc, ◌+◌, ◌*◌, ◌<◌, ◌≤◌, ◌≡◌, false, List, [], ◌∷◌, ◌++◌, ◌⊎◌, length, get_or, eqb}
use Rattle.model.specs.Answers.{Requirement, Answers}
use Rattle.model.specs.Bytes.{byte, two, four, RecordAt, bit, NoBitFrom}
use Rattle.model.specs.Graph.{Graph}
use Rattle.model.specs.Policies.{Side, any_side, owner_lesser, owner_greater, Admits}
use Rattle.model.specs.Policies.{Policy, no_one, everyone, owner_only, within, known, clique, state, both, either}
use Rattle.model.specs.Scheme.{Scheme, lowest}

-- the side that k names in kind 6
abbrev pub side_of : ℕ → Side
side_of k = get_or (any_side ∷ owner_lesser ∷ owner_greater ∷ []) k any_side

-- the policy of a kind and its three other bytes; operands are looked up among the policies of lower number
abbrev pub policy_of : (ℕ → Policy) → ℕ → ℕ → ℕ → ℕ → Policy
policy_of lower kind k left right =
    get_or
    (no_one
    ∷ everyone
    ∷ owner_only
    ∷ within k
    ∷ known k
    ∷ clique k
    ∷ state (left + 256 * right) (side_of k)
    ∷ both (lower left) (lower right)
    ∷ either (lower left) (lower right)
    ∷ [])
    kind
    no_one

-- a next state: undefined, or one of S states
abbrev pub MoveFits : ℕ → ℕ → Type 0
MoveFits S q = (q ≡ 255) ⊎ (q < S)

-- what the four bytes of policy p may be, by its kind, where there are S states; fields not named are zero
abbrev pub PolicyFits : ℕ → ℕ → ℕ → ℕ → ℕ → ℕ → Type 0
PolicyFits S p kind k left right =
    -- no one, everyone, u = v
    ((kind ≤ 2) × (k ≡ 0) × (left ≡ 0) × (right ≡ 0))
    -- within and known
    ⊎ ((3 ≤ kind) × (kind ≤ 4) × (1 ≤ k) × (k ≤ 255) × (left ≡ 0) × (right ≡ 0))
    -- clique
    ⊎ ((kind ≡ 5) × (2 ≤ k) × (k ≤ 5) × (left ≡ 0) × (right ≡ 0))
    -- state
    ⊎ ((kind ≡ 6) × (k ≤ 2) × NoBitFrom S (left + 256 * right))
    -- both and either
    ⊎ ((7 ≤ kind) × (kind ≤ 8) × (k ≡ 0) × (left < p) × (right < p))

-- a mask of P policies: not zero, no bit at or above P
abbrev pub MaskFits : ℕ → ℕ → Type 0
MaskFits P mask = (1 ≤ mask) × NoBitFrom P mask

-- n members without friendships, all in state 0
abbrev pub strangers : ℕ → Graph
strangers n = record { members = n; friends = λ u v. false; in_set = λ set u v. bit set 0; group = λ m. false }

module _ (b : List ℕ) where
  -- the counts of kind 1
  abbrev pub n : ℕ
  n = two b 4

  abbrev pub S : ℕ
  S = byte b 6

  abbrev pub A : ℕ
  A = byte b 7

  abbrev pub I : ℕ
  I = byte b 8

  abbrev pub P : ℕ
  P = byte b 9

  -- where the records of kinds 2 to 6 begin, the sixth if there is one; a body begins 4 bytes behind
  abbrev pub at2 : ℕ
  at2 = 10

  abbrev pub at3 : ℕ
  at3 = at2 + 4 + S * 2 * A

  abbrev pub at4 : ℕ
  at4 = at3 + 4 + S

  abbrev pub at5 : ℕ
  at5 = at4 + 4 + P * 4

  abbrev pub at6 : ℕ
  at6 = at5 + 4 + (2 + A + I) * 4

  -- byte i of the four of policy p: kind, k, left, right
  abbrev pub field : ℕ → ℕ → ℕ
  field p i = byte b (at4 + 4 + p * 4 + i)

  -- the policies below p, in order
  unfoldable pub policies : ℕ → List Policy
  policies zero = []
  policies (suc p) =
      let l = policies p in
      l ++ policy_of (λ q. get_or l q no_one) (field p 0) (field p 1) (field p 2) (field p 3) ∷ []

  -- the scheme that the bytes hold; a byte that is not there reads as 0, so without a sixth record all are persons
  abbrev pub scheme_of : Scheme
  scheme_of = record {
    members = n;
    states = S;
    primitives = A;
    items = I;
    move = λ q s a. byte b (at2 + 4 + ((q * 2 + s) * A + a));
    friendly = λ q. eqb (byte b (at3 + 4 + q)) 1;
    policy = λ p. get_or (policies P) p no_one;
    mask = λ r. four b (at5 + 4 + r * 4);
    group = λ m. eqb (byte b (at6 + 4 + m)) 1;
  }

  -- 2: a head count is outside its range
  pub record CountsFit : Type 0 where
    pub members : (1 ≤ n) × (n ≤ 256)
    pub states : (1 ≤ S) × (S ≤ 16)
    pub primitives : (1 ≤ A) × (A ≤ 8)
    pub items : (1 ≤ I) × (I ≤ 16)
    pub policies : (1 ≤ P) × (P ≤ 32)

  -- nothing follows the fifth record, or one record of kind 6
  abbrev pub Sixth : Type 0
  Sixth = (length b ≡ at6) ⊎ (RecordAt b at6 6 n × (length b ≡ at6 + 4 + n))

  -- 1: a later record is cut, of another kind or length, or anything but one record of kind 6 follows the fifth
  pub record Records : Type 0 where
    pub moves : RecordAt b at2 2 (S * 2 * A)
    pub friends : RecordAt b at3 3 S
    pub policies : RecordAt b at4 4 (P * 4)
    pub masks : RecordAt b at5 5 ((2 + A + I) * 4)
    pub groups : Sixth

  -- 3: a byte inside kinds 2 to 6 breaks what is said of it
  pub record BytesFit : Type 0 where
    pub moves : (k : ℕ) → k < S * 2 * A → MoveFits S (byte b (at2 + 4 + k))
    pub friends : (q : ℕ) → q < S → byte b (at3 + 4 + q) ≤ 1
    pub policies : (p : ℕ) → p < P → PolicyFits S p (field p 0) (field p 1) (field p 2) (field p 3)
    pub masks : (r : ℕ) → r < 2 + A + I → MaskFits P (four b (at5 + 4 + r * 4))
    pub groups : (m : ℕ) → m < n → byte b (at6 + 4 + m) ≤ 1

  -- 4: state 0 is marked as friends, or the lowest search policy admits an accessor other than the owner among strangers
  pub record StrangersApart : Type 0 where
    pub unmarked : byte b (at3 + 4) ≡ 0
    pub unsearched : (members u v : ℕ)
        → (u ≡ v → ⊥)
        → Admits (strangers members) (scheme_of.policy (lowest (scheme_of.mask 0))) u v
        → ⊥

  -- the scheme check
  abbrev pub scheme_needs : List Requirement
  scheme_needs = (1, RecordAt b 0 1 6) ∷ (2, CountsFit) ∷ (1, Records) ∷ (3, BytesFit) ∷ (4, StrangersApart) ∷ []

-- no accepted scheme has more bytes
abbrev pub longest_scheme : ℕ
longest_scheme = 790

-- the scheme is accepted
abbrev pub Accepted : List ℕ → Type 0
Accepted b = Answers (scheme_needs b) 0
