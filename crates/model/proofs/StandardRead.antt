-- The standard scheme's bytes: accepted for every number of members, and read back as document 01 lists them.
use Prim.Native.Nat.{ℕ, zero, suc, ◌+◌, ◌*◌, ◌/◌, ◌^◌, ◌<◌, ◌≤◌}
use mathlib.Core.Path.{◌≡◌, refl, ap}
use mathlib.Core.Bool.{Bool, true, ◌&&◌, ◌||◌, false≢true}
use mathlib.Core.List.{List, [], ◌∷◌, ◌++◌}
use mathlib.Core.Logic.{◌⊎◌, inl, inr}
use native.Mathlib.Omega.{arith}
use lib.Dec.{eqb, leb, ltb}
use lib.ListN.{length, get_or, get_or-eq_default}
use Rattle.model.specs.Bytes.{byte, two, four, RecordAt}
use Rattle.model.specs.Policies.{Policy, Admits, no_one, either}
use Rattle.model.specs.Scheme.{Scheme, lowest_from}
use Rattle.model.specs.SchemeBytes.{scheme_of, policies, scheme_needs, Accepted, at2, at3, at5, at6, S, P, strangers, field, PolicyFits, MaskFits, CountsFit, Sixth, Records, BytesFit, StrangersApart}
use Rattle.model.specs.Network.{size, fresh}
use Rattle.model.specs.Standard.{standard_bytes, standard, standard_policies, invited, StandardRead}
use Rattle.model.proofs.Computing.{every}
use Rattle.model.proofs.Answering.{met_granted}
use Rattle.model.proofs.Bits.{shr_zero}
use Rattle.model.proofs.Deciding.{Says, is_eq, is_lt, is_le, conj, disj, every_holds}

-- a member's first k settings in a fresh network
unfoldable pub settings_of : Scheme → ℕ → ℕ → List ℕ
settings_of c m zero = []
settings_of c m (suc k) = settings_of c m k ++ (fresh c).setting m k ∷ []

-- what a policy's bytes may be, as a test
unfoldable pub fits : ℕ → ℕ → ℕ → ℕ → ℕ → ℕ → Bool
fits S p kind k left right =
    (leb kind 2 && (eqb k 0 && (eqb left 0 && eqb right 0)))
    || ((leb 3 kind && (leb kind 4 && (leb 1 k && (leb k 255 && (eqb left 0 && eqb right 0)))))
    || ((eqb kind 5 && (leb 2 k && (leb k 5 && (eqb left 0 && eqb right 0))))
    || ((eqb kind 6 && (leb k 2 && eqb ((left + 256 * right) / 2 ^ S) 0))
    || (leb 7 kind && (leb kind 8 && (eqb k 0 && (ltb left p && ltb right p)))))))

pub policy_fits : (S p kind k left right : ℕ) → fits S p kind k left right ≡ true → PolicyFits S p kind k left right
unfolding fits
policy_fits S p kind k left right e = go (told.yes_if e)
  where
    Told : Type 0
    Told =
        ((kind ≤ 2) × ((k ≡ 0) × ((left ≡ 0) × (right ≡ 0))))
        ⊎ (((3 ≤ kind) × ((kind ≤ 4) × ((1 ≤ k) × ((k ≤ 255) × ((left ≡ 0) × (right ≡ 0))))))
        ⊎ (((kind ≡ 5) × ((2 ≤ k) × ((k ≤ 5) × ((left ≡ 0) × (right ≡ 0)))))
        ⊎ (((kind ≡ 6) × ((k ≤ 2) × ((left + 256 * right) / 2 ^ S ≡ 0)))
        ⊎ ((7 ≤ kind) × ((kind ≤ 8) × ((k ≡ 0) × ((left < p) × (right < p))))))))

    told : Says (fits S p kind k left right) Told
    told =
        disj (conj (is_le kind 2) (conj (is_eq k 0) (conj (is_eq left 0) (is_eq right 0))))
        (disj (conj (is_le 3 kind) (conj (is_le kind 4) (conj (is_le 1 k) (conj (is_le k 255) (conj (is_eq left 0) (is_eq right 0))))))
        (disj (conj (is_eq kind 5) (conj (is_le 2 k) (conj (is_le k 5) (conj (is_eq left 0) (is_eq right 0)))))
        (disj (conj (is_eq kind 6) (conj (is_le k 2) (is_eq ((left + 256 * right) / 2 ^ S) 0)))
        (conj (is_le 7 kind) (conj (is_le kind 8) (conj (is_eq k 0) (conj (is_lt left p) (is_lt right p))))))))

    go : Told → PolicyFits S p kind k left right
    go (inl (x, (y, (z, w)))) = inl (x, y, z, w)
    go (inr (inl (x, (y, (z, (v, (w, u))))))) = inr (inl (x, y, z, v, w, u))
    go (inr (inr (inl (x, (y, (z, (w, u))))))) = inr (inr (inl (x, y, z, w, u)))
    go (inr (inr (inr (inl (x, (y, z)))))) = inr (inr (inr (inl (x, y, shr_zero S (left + 256 * right) z))))
    go (inr (inr (inr (inr (x, (y, (z, (w, u)))))))) = inr (inr (inr (inr (x, y, z, w, u))))

-- and a mask
abbrev pub mask_test : ℕ → ℕ → Bool
mask_test P x = leb 1 x && eqb (x / 2 ^ P) 0

pub mask_fits : (P x : ℕ) → mask_test P x ≡ true → MaskFits P x
mask_fits P x e = let (l, z) = (conj (is_le 1 x) (is_eq (x / 2 ^ P) 0)).yes_if e in (l, shr_zero P x z)

-- with what stands behind the five records
module _ (n : ℕ) (more : List ℕ) where
  abbrev b : List ℕ
  b = standard_bytes n ++ more

  moves_fit : every (λ k. eqb (byte b (at2 b + 4 + k)) 255 || ltb (byte b (at2 b + 4 + k)) (S b)) 32 ≡ true
  unfolding every
  moves_fit = refl

  friends_fit : every (λ q. leb (byte b (at3 b + 4 + q)) 1) 4 ≡ true
  unfolding every
  friends_fit = refl

  policies_fit : every (λ p. fits (S b) p (field b p 0) (field b p 1) (field b p 2) (field b p 3)) 13 ≡ true
  unfolding every fits
  policies_fit = refl

  masks_fit : every (λ r. mask_test (P b) (four b (at5 b + 4 + r * 4))) 9 ≡ true
  unfolding every
  masks_fit = refl

  -- the lowest search policy, either no_one invited, admits no stranger
  unsearched : (members u v : ℕ) → Admits (strangers members) (either no_one invited) u v → ⊥
  unsearched members u v (inl h) = h
  unsearched members u v (inr (inl (e, s))) = false≢true e
  unsearched members u v (inr (inr (e, s))) = false≢true e

  pub head : RecordAt b 0 1 6
  head = (omega arith, refl, refl)

  pub counts : 1 ≤ n → n ≤ 256 → CountsFit b
  counts low high = record { members = omega arith; states = omega arith; primitives = omega arith; items = omega arith; policies = omega arith }

  pub records : Sixth b → Records b
  records behind = record {
    moves = (omega arith, refl, refl);
    friends = (omega arith, refl, refl);
    policies = (omega arith, refl, refl);
    masks = (omega arith, refl, refl);
    groups = behind;
  }

  pub bytes_fit : ((m : ℕ) → m < two b 4 → byte b (at6 b + 4 + m) ≤ 1) → BytesFit b
  bytes_fit groups = record {
    moves = λ k h. (disj (is_eq (byte b (at2 b + 4 + k)) 255) (is_lt (byte b (at2 b + 4 + k)) (S b))).yes_if (every_holds _ 32 moves_fit k h);
    friends = λ q h. (is_le (byte b (at3 b + 4 + q)) 1).yes_if (every_holds _ 4 friends_fit q h);
    policies = λ p h. policy_fits (S b) p (field b p 0) (field b p 1) (field b p 2) (field b p 3) (every_holds _ 13 policies_fit p h);
    masks = λ r h. mask_fits (P b) (four b (at5 b + 4 + r * 4)) (every_holds _ 9 masks_fit r h);
    groups = groups;
  }

  pub strangers_apart : StrangersApart b
  unfolding policies lowest_from
  strangers_apart = record { unmarked = refl; unsearched = λ m u v n h. unsearched m u v h }

module _ (n : ℕ) where
  abbrev c : List ℕ
  c = standard_bytes n

  -- there is no sixth record
  no_group : (m : ℕ) → byte c (at6 c + 4 + m) ≡ 0
  no_group m = let h : length c ≤ at6 c + 4 + m = omega arith in get_or-eq_default c 0 h

  pub standard_accepted : 1 ≤ n → n ≤ 256 → Accepted c
  standard_accepted low high =
      met_granted (scheme_needs c)
      (head n [], (counts n [] low high, (records n [] (inl refl), (bytes_fit n [] (λ m h. rw (no_group m) (omega arith)), (strangers_apart n [], tt)))))

  moves_read : every (λ q. every (λ s. every (λ a. eqb ((scheme_of c).move q s a) ((standard n).move q s a)) 4) 2) 4 ≡ true
  unfolding every
  moves_read = refl

  masks_read : every (λ r. eqb ((scheme_of c).mask r) ((standard n).mask r)) 9 ≡ true
  unfolding every
  masks_read = refl

  policies_read : policies c 13 ≡ standard_policies
  unfolding policies
  policies_read = refl

  friends_read : (q : ℕ) → q < 4 → (scheme_of c).friendly q ≡ (standard n).friendly q
  friends_read zero h = refl
  friends_read (suc zero) h = refl
  friends_read (suc (suc zero)) h = refl
  friends_read (suc (suc (suc zero))) h = refl
  friends_read (suc (suc (suc (suc q)))) h = absurd (omega arith)

  pub standard_read : StandardRead n
  standard_read = record {
    members = omega arith;
    states = refl;
    primitives = refl;
    items = refl;
    moves = λ q s a x y z. (is_eq ((scheme_of c).move q s a) ((standard n).move q s a)).yes_if (every_holds _ 4 (every_holds _ 2 (every_holds _ 4 moves_read q x) s y) a z);
    friends = friends_read;
    policies = λ p. ap (λ (l : List Policy). get_or l p no_one) policies_read;
    masks = λ r x. (is_eq ((scheme_of c).mask r) ((standard n).mask r)).yes_if (every_holds _ 9 masks_read r x);
    groups = λ m. ap (λ (x : ℕ). eqb x 1) (no_group m);
  }

-- n = 4 takes 42 bytes; n = 256, A = 8, I = 16 takes 39,296
pub sizes : (size (standard 4) ≡ 42) × ((c : Scheme) → c.members ≡ 256 → c.primitives ≡ 8 → c.items ≡ 16 → size c ≡ 39296)
sizes = (refl, λ c m p i. rw (m, p, i) refl)

-- the fresh settings of the standard scheme: search, traversal, four primitives, three items
pub fresh_settings : (n m : ℕ) → settings_of (standard n) m 9 ≡ 8 ∷ 0 ∷ 0 ∷ 4 ∷ 4 ∷ 4 ∷ 8 ∷ 0 ∷ 0 ∷ []
unfolding lowest_from settings_of
fresh_settings n m = refl
