-- The common bits of three rows.
use Prim.Native.Nat.{ℕ, zero, suc, ◌+◌, ◌*◌, ◌%◌, ◌^◌, ◌≤◌, ◌<◌}
use mathlib.Core.Path.{◌≡◌, refl, sym, ap, ap₂, ◌∙◌, subst}
use mathlib.Core.Bool.{Bool, ◌&&◌, not}
use mathlib.Core.List.{List, [], ◌∷◌, map}
use native.Mathlib.Nat.{zero-add, mod-lt, mod-one, mod-eq_of_lt, add_comm, not-suc-le-zero, le_of_suc-le-suc}
use native.Mathlib.Numerals.{one-add}
use native.Mathlib.Omega.{arith}
use lib.Arith.{digits_div, digits_mod}
use lib.Bits.{bit_and, and_lt}
use lib.Count.{ones, ones_cat}
use lib.Dec.{eqb}
use lib.ListN.{length, get_or}
use lib.Pow.{pow_pos, mod-pow-add}
use Rattle.std.specs.List.{sum, zip}
use Rattle.model.specs.Bytes.{digit, bit}
use Rattle.model.specs.Graph.{Graph, one, count, shared}
use Rattle.model.proofs.Bits.{digit_lt, bit_and_lem}
use Rattle.model.proofs.Counting.{count_ext, count_split, count_above, count_le}
use Rattle.sets.specs.Rows.{row_bit, FriendRow, PersonRow}
use Rattle.sets.specs.Sets.{CommonBits}
use Rattle.sets.proofs.Words.{four_words}

-- ---- the common bits of three words

ones_small : (d : ℕ) → d < 2 → ones d ≡ one (eqb d 1)
unfolding ones
ones_small zero h = refl
ones_small (suc zero) h = refl
ones_small (suc (suc d)) h = absurd (not-suc-le-zero (le_of_suc-le-suc (le_of_suc-le-suc h)))

-- the ones of x's n low digits are counted digit by digit
ones_count : (x n : ℕ) → ones (x % 2 ^ n) ≡ count (bit x) n
unfolding count ones
ones_count x zero = ap ones (mod-one x)
ones_count x (suc n) =
    ap (λ (k : ℕ). ones (x % 2 ^ k)) (sym (one-add n))
    ∙ ap ones (mod-pow-add x 1 n)
    ∙ ones_cat n (digit x n) (x % 2 ^ n) (mod-lt x (pow_pos n))
    ∙ ap₂ (λ (a b : ℕ). a + b) (ones_small (digit x n) (digit_lt x n)) (ones_count x n)
    ∙ add_comm (one (bit x n)) (count (bit x) n)

-- `count_ones(x & y & z)` of three words
pub ones_common : (x y z : ℕ) → x < 2 ^ 64 → y < 2 ^ 64 → z < 2 ^ 64 → ones (bit_and (bit_and x y) z) ≡ count (λ (m : ℕ). bit x m && bit y m && bit z m) 64
ones_common x y z hx hy hz =
    sym (ap ones (mod-eq_of_lt (and_lt 64 (bit_and x y) z (and_lt 64 x y hx hy) hz)))
    ∙ ones_count (bit_and (bit_and x y) z) 64
    ∙ count_ext (bit (bit_and (bit_and x y) z)) (λ (m : ℕ). bit x m && bit y m && bit z m) 64
    (λ m h. bit_and_lem (bit_and x y) z m ∙ ap (λ (t : Bool). t && bit z m) (bit_and_lem x y m))

-- how many bits three words have in common
abbrev pub in_common : (ℕ × ℕ) × ℕ → ℕ
in_common p = count (λ m. bit p.0.0 m && bit p.0.1 m && bit p.1 m) 64

-- ---- the common bits of three rows

module _ (a b c : List ℕ) where
  abbrev all : ℕ → Bool
  all m = row_bit a m && row_bit b m && row_bit c m

  -- bit m of each row's word w
  abbrev in_words : ℕ → ℕ → Bool
  in_words w m = bit (get_or a w 0) m && bit (get_or b w 0) m && bit (get_or c w 0) m

  -- r is how many bits the words w have in common
  abbrev InWord : ℕ → ℕ → Type 0
  InWord w r = r ≡ count (in_words w) 64

  -- the count so far, and that of word w
  turn : (w n r : ℕ) → n ≡ count all (w * 64) → InWord w r → n + r ≡ count all ((w + 1) * 64)
  turn w n r e q =
      ap₂ (λ (x y : ℕ). x + y) e
      (q
      ∙ sym
      (count_ext (λ (m : ℕ). all (w * 64 + m)) (in_words w) 64
      (λ m h. ap₂ in_words (digits_div w h) (digits_mod w h))))
      ∙ sym (count_split all (w * 64) 64)
      ∙ ap (count all) (omega arith)

  -- shared friends are common bits
  shares : (g : Graph) (u v : ℕ) → g.members ≤ 256 → FriendRow g u a → FriendRow g v b → PersonRow g c → count all 256 ≡ shared g u v
  shares g u v h p q o =
      count_above all g.members 256 h (λ m l. ap (λ (x : Bool). x && row_bit b m && row_bit c m) (p.none_above m l))
      ∙ count_ext all (λ (m : ℕ). g.friends u m && g.friends v m && not (g.group m)) g.members
      (λ m l. ap₂ (λ (x y : Bool). x && y) (ap₂ (λ (x y : Bool). x && y) (p.bits m (omega arith)) (q.bits m (omega arith))) (o.bits m (omega arith)))

  first : (r : ℕ) → InWord 0 r → r ≡ count all 64
  unfolding count
  first r e = sym (zero-add r) ∙ turn 0 0 r refl e

  pub common_bits : (r₀ r₁ r₂ r₃ : ℕ) → InWord 0 r₀ → InWord 1 r₁ → InWord 2 r₂ → InWord 3 r₃ → CommonBits a b c (r₀ + r₁ + r₂ + r₃)
  common_bits r₀ r₁ r₂ r₃ e₀ e₁ e₂ e₃ =
      let e : r₀ + r₁ + r₂ + r₃ ≡ count all 256 =
      turn 3 (r₀ + r₁ + r₂) r₃ (turn 2 (r₀ + r₁) r₂ (turn 1 r₀ r₁ (first r₀ e₀) e₁) e₂) e₃ in
      record { counted = e; shares = λ g u v h p q o. e ∙ shares g u v h p q o }

of_four : (P : List ℕ → Type 0) → ((w x y z : ℕ) → P (w ∷ x ∷ y ∷ z ∷ [])) → (xs : List ℕ) → length xs ≡ 4 → P xs
of_four P p xs e = subst P (four_words xs e) (p _ _ _ _)

-- how many bits rows have in common, word by word
abbrev pub by_words : List ℕ → List ℕ → List ℕ → ℕ
by_words a b c = sum (map in_common (zip (zip a b) c))

-- `a.iter().zip(&b).zip(&c).map(..).sum()`
pub words_common : (a b c : List ℕ) → length a ≡ 4 → length b ≡ 4 → length c ≡ 4 → CommonBits a b c (by_words a b c)
words_common a b c l m n =
    of_four (λ xs. CommonBits xs b c (by_words xs b c))
    (λ a₀ a₁ a₂ a₃. of_four (λ ys. CommonBits (a₀ ∷ a₁ ∷ a₂ ∷ a₃ ∷ []) ys c (by_words (a₀ ∷ a₁ ∷ a₂ ∷ a₃ ∷ []) ys c))
    (λ b₀ b₁ b₂ b₃. of_four
    (λ zs. CommonBits (a₀ ∷ a₁ ∷ a₂ ∷ a₃ ∷ []) (b₀ ∷ b₁ ∷ b₂ ∷ b₃ ∷ []) zs (by_words (a₀ ∷ a₁ ∷ a₂ ∷ a₃ ∷ []) (b₀ ∷ b₁ ∷ b₂ ∷ b₃ ∷ []) zs))
    (λ c₀ c₁ c₂ c₃. rw
    (zero-add (in_common ((a₀, b₀), c₀)))
    (common_bits (a₀ ∷ a₁ ∷ a₂ ∷ a₃ ∷ []) (b₀ ∷ b₁ ∷ b₂ ∷ b₃ ∷ []) (c₀ ∷ c₁ ∷ c₂ ∷ c₃ ∷ []) _ _ _ _ refl refl refl refl)) c n) b m)
    a l

pub few_common : (a b c : List ℕ) → length a ≡ 4 → length b ≡ 4 → length c ≡ 4 → by_words a b c < 2 ^ 32
few_common a b c l m n =
    let h = (words_common a b c l m n).counted in
    omega (arith, h, count_le (λ (k : ℕ). row_bit a k && row_bit b k && row_bit c k) 256)
