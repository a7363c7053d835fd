-- Text upon text.
use Prim.Native.Nat.{ℕ, zero, suc, ◌+◌, ◌*◌, ◌-◌, ◌/◌, ◌%◌, ◌^◌, ◌≤◌, ◌<◌}
use mathlib.Core.Path.{◌≡◌, refl, sym, ◌∙◌, ap, ap₂}
use mathlib.Core.List.{List, [], ◌∷◌, ◌++◌, append_assoc, append-nil}
use native.Mathlib.Numerals.{add-one, unary_clauses}
use native.Mathlib.Omega.{arith}
use native.Mathlib.Decide.{dec_lt}
use lib.Pow.{pow-add}
use lib.ListN.{length, get_or, take, drop, length-append, take-append-drop}
use lib.Seq.{take-suc, drop-drop}
use borrow.Author.Tests.{lt-ltb, le-ltb}
use Rattle.io.specs.Digits.{last_digits, IsDigitCount}
use Rattle.model.specs.Text.{digits_of, decimal, spaced, line_of}
use Rattle.lines.specs.Put.{Put, Puts}
use Rattle.lines.specs.declared.Text.{Text}

-- the law by which all is put together
pub put_then : {a b c s t : List ℕ} {i j k : ℕ} → Put a i s j b → Put b j t k c → Put a i (s ++ t) k c
put_then {a} {b} {c} {s} {t} {i} {j} {k} p q = record {
  long = q.long ∙ p.long;
  size = omega (arith, p.size, q.size, length-append s t);
  fits = omega (arith, q.fits, p.long);
  front = q.front ∙ ap (λ (r : List ℕ). r ++ t) p.front ∙ append_assoc (take i a) s t;
  behind = q.behind ∙ ap (λ (m : ℕ). drop m b) split ∙ sym (drop-drop (k - j) j b) ∙ ap (drop (k - j)) p.behind ∙ drop-drop (k - j) j a ∙ ap (λ (m : ℕ). drop m a) (sym split);
}
  where
    split : k ≡ j + (k - j)
    split = omega (arith, q.size)

-- equal texts are put in one way
pub put_once : {old s t x y : List ℕ} {at i j : ℕ} → s ≡ t → Put old at s i x → Put old at t j y → (i ≡ j) × (x ≡ y)
put_once {old} {s} {t} {x} {y} {at} {i} {j} e p q =
    let same : i ≡ j = p.size ∙ ap (λ (l : List ℕ). at + length l) e ∙ sym q.size in
    let front : take i x ≡ take j y = p.front ∙ ap (λ (l : List ℕ). take at old ++ l) e ∙ sym q.front in
    let behind : drop i x ≡ drop j y = p.behind ∙ ap (λ (k : ℕ). drop k old) same ∙ sym q.behind in
    (same, sym (take-append-drop i x) ∙ ap₂ (λ (k l : List ℕ). k ++ l) front behind ∙ take-append-drop j y)

power_pos : (k : ℕ) → 1 ≤ 10 ^ k
power_pos zero = omega arith
power_pos (suc k) = omega (arith, power_pos k)

-- the fewest digits are the number's digits
fewest_digits : (most n k : ℕ) → k ≤ most → IsDigitCount 10 1 n (suc k) → last_digits 10 (suc k) n ≡ digits_of (suc most) n
fewest_digits most n zero b (l, h, m) =
    let s : n < 10 = omega arith in
    let d : n % 10 < 10 = omega arith in
    rw (lt-ltb n 10 s, lt-ltb (n % 10) 10 d) refl
fewest_digits zero n (suc k) b (l, h, m) = absurd (omega arith)
fewest_digits (suc most) n (suc k) b (l, h, m) =
    let low : 10 ^ k * 10 ≤ n = simp unary_clauses at (m (omega arith)) in
    let ten : 10 ≤ n = omega (arith, power_pos k) in
    let d : n % 10 < 10 = omega arith in
    rw (le-ltb n 10 ten, lt-ltb (n % 10) 10 d) (ap (λ (r : List ℕ). r ++ (48 + n % 10) ∷ []) (fewest_digits most (n / 10) k (omega arith) (omega arith, omega arith, λ z. simp unary_clauses (omega arith))))

-- a number of 16 bits has at most 5 digits
pub fewest_most : (n k : ℕ) → n < 65536 → IsDigitCount 10 1 n k → k ≤ 5
fewest_most n k s (l, h, m) = elim (dec_lt 5 k) [ yes b ↦ absurd (too_many b) | no b ↦ omega arith ]
  where
    too_many : 5 < k → ⊥
    too_many b =
        let d : k - 1 ≡ 5 + (k - 6) = omega arith in
        let e : 10 ^ 5 * 10 ^ (k - 6) ≤ n = rw (← pow-add 10 5 (k - 6), ← d) (m (omega arith)) in
        omega (arith, power_pos (k - 6))

pub is_decimal : (n k : ℕ) (text : List ℕ) → k ≤ 5 → IsDigitCount 10 1 n k → text ≡ last_digits 10 k n → text ≡ decimal n
unfolding decimal
is_decimal n zero text b (l, h, m) e = absurd (omega arith)
is_decimal n (suc k) text b f e = e ∙ fewest_digits 4 n k (omega arith) f

spaced_append : (k l : List ℕ) → spaced (k ++ l) ≡ spaced k ++ spaced l
spaced_append [] l = refl
spaced_append (x ∷ k) l = ap (λ (r : List ℕ). (32 ∷ decimal x) ++ r) (spaced_append k l) ∙ sym (append_assoc (32 ∷ decimal x) (spaced k) (spaced l))

spaced_one : (x : ℕ) → spaced (x ∷ []) ≡ 32 ∷ decimal x
spaced_one x = append-nil (32 ∷ decimal x)

pub puts_then : {x y z : Text} {s t : List ℕ} → Puts x s y → Puts y t z → Puts x (s ++ t) z
puts_then p q = record { put = put_then p.put q.put; same_reference = q.same_reference ∙ p.same_reference }

pub puts_number_more : (numbers : List ℕ) (i : ℕ) {x y z : Text} → i < length numbers → Puts x (spaced (take i numbers)) y → Puts y (32 ∷ decimal (get_or numbers i 0)) z → Puts x (spaced (take (i + 1) numbers)) z
puts_number_more numbers i h p q =
    rw (add-one i, take-suc numbers i 0 h, spaced_append (take i numbers) (get_or numbers i 0 ∷ []), spaced_one (get_or numbers i 0)) (puts_then p q)

-- the four parts of a line
pub puts_line : (position answer : ℕ) (friends : List ℕ) {v w x y z : Text}
    → Puts v (decimal position) w → Puts w (32 ∷ decimal answer) x → Puts x (spaced friends) y → Puts y (10 ∷ []) z
    → Puts v (line_of position answer friends) z
unfolding line_of
puts_line position answer friends p q s t =
    rw (← append_assoc (decimal position) (32 ∷ decimal answer) (spaced friends)) (puts_then (puts_then (puts_then p q) s) t)

pub puts_as : {x y : Text} {s t : List ℕ} → Puts x s y → s ≡ t → Puts x t y
puts_as p e = rw e at p
