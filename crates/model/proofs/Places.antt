-- Where pairs and settings stand: different places, and together every place.
use Prim.Native.Nat.{ℕ, zero, suc, ◌+◌, ◌*◌, ◌/◌, ◌%◌, ◌-◌, ◌<◌, ◌≤◌}
use mathlib.Core.Path.{◌≡◌, refl, sym, ◌∙◌, ap}
use native.Mathlib.Omega.{arith}
use native.Mathlib.Decide.{ℕ_discrete, dec_lt}
use native.Mathlib.Nat.{mul-suc, suc-mul, add-mul-div_right, not-suc-le-zero, div-add-mod', mod-lt, div-lt_iff_lt-mul}
use lib.Arith.{digits_lt, digits_div, digits_mod}
use Rattle.model.specs.Scheme.{Scheme, resources}
use Rattle.model.specs.Network.{pairs, pair_place, setting_place, size}

twice : (j : ℕ) → suc j * j ≡ j * (j - 1) + j * 2
twice zero = refl
twice (suc k) =
    let e : suc k - 1 ≡ k = omega arith in
    rw e (omega (arith, suc-mul (suc k) (suc k), mul-suc (suc k) k))

pub pairs_suc : (j : ℕ) → pairs (suc j) ≡ pairs j + j
pairs_suc j =
    let e : suc j - 1 ≡ j = omega arith in
    rw (e, twice j) (add-mul-div_right (j * (j - 1)) j (omega arith))

pub pairs_mono : (j k : ℕ) → j ≤ k → pairs j ≤ pairs k
pairs_mono j zero h = let e : j ≡ 0 = omega arith in rw e (omega arith)
pairs_mono j (suc k) h = go (ℕ_discrete j (suc k)) (λ i. pairs_mono j k i)
  where
    go : Dec (j ≡ suc k) → (j ≤ k → pairs j ≤ pairs k) → pairs j ≤ pairs (suc k)
    go (yes e) ih = rw e (omega arith)
    go (no n) ih =
        let i : pairs j ≤ pairs k = ih (omega arith) in
        rw (pairs_suc k) (omega arith)

-- a pair's place is before those of the greater member's successor
pub pair_before : (i j k : ℕ) → i < j → j < k → pair_place i j < pairs k
pair_before i j k b h =
    let m : pairs (suc j) ≤ pairs k = pairs_mono (suc j) k h in
    let n : pairs j + j ≤ pairs k = rw (pairs_suc j) at m in
    omega arith

pub pair_injective : (i j k l : ℕ) → i < j → k < l → pair_place i j ≡ pair_place k l → (i ≡ k) × (j ≡ l)
pair_injective i j k l a b e = go (dec_lt j l) (dec_lt l j)
  where
    go : Dec (j < l) → Dec (l < j) → (i ≡ k) × (j ≡ l)
    go (yes h) d = let z : pair_place i j < pairs l = pair_before i j l a h in absurd (omega arith)
    go (no n) (yes h) = let z : pair_place k l < pairs j = pair_before k l j b h in absurd (omega arith)
    go (no n) (no m) =
        let q : j ≡ l = omega arith in
        let z : pairs j ≡ pairs l = ap pairs q in
        (omega arith, q)

-- every place below `pairs n` is that of a pair
pub pair_onto : (n k : ℕ) → k < pairs n → (i j : ℕ) × (i < j) × (j < n) × (k ≡ pair_place i j)
pair_onto zero k h = absurd (not-suc-le-zero h)
pair_onto (suc n) k h = go (dec_lt k (pairs n)) (λ b. pair_onto n k b)
  where
    go : Dec (k < pairs n) → (k < pairs n → (i j : ℕ) × (i < j) × (j < n) × (k ≡ pair_place i j)) → (i j : ℕ) × (i < j) × (j < suc n) × (k ≡ pair_place i j)
    go (yes b) ih = let (i, j, a, c, e) = ih b in (i, j, a, omega arith, e)
    go (no b) ih =
        let c : k < pairs n + n = rw (pairs_suc n) at h in
        (k - pairs n, n, omega arith, omega arith, omega arith)

pub setting_before : (c : Scheme) (m r : ℕ) → m < c.members → r < resources c → setting_place c m r < size c
setting_before c m r b h =
    let z : m * resources c + r < c.members * resources c = digits_lt b h in
    omega arith

pub setting_injective : (c : Scheme) (m r k t : ℕ) → r < resources c → t < resources c → setting_place c m r ≡ setting_place c k t → (m ≡ k) × (r ≡ t)
setting_injective c m r k t a b e =
    let z : m * resources c + r ≡ k * resources c + t = omega arith in
    (sym (digits_div m a) ∙ ap (λ (x : ℕ). x / resources c) z ∙ digits_div k b, sym (digits_mod m a) ∙ ap (λ (x : ℕ). x % resources c) z ∙ digits_mod k b)

-- every place from `pairs n` to the end is that of a setting
pub setting_onto : (c : Scheme) (k : ℕ) → pairs c.members ≤ k → k < size c → (m r : ℕ) × (m < c.members) × (r < resources c) × (k ≡ setting_place c m r)
setting_onto c k a b =
    let x : ℕ = k - pairs c.members in
    let p : 0 < resources c = omega arith in
    let e : x / resources c * resources c + x % resources c ≡ x = div-add-mod' x (resources c) in
    let h : x < c.members * resources c = omega arith in
    (x / resources c, x % resources c, (div-lt_iff_lt-mul p).1 h, mod-lt x p, omega arith)
