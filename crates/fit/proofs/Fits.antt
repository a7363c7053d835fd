-- What the code tests of the bytes of kinds 2 to 6 is what the definition says of them.
use Prim.Native.Nat.{ℕ, zero, suc, ◌+◌, ◌-◌, ◌*◌, ◌/◌, ◌%◌, ◌^◌, ◌≤◌, ◌<◌, min}
use mathlib.Core.Path.{◌≡◌, refl, ap, ◌∙◌}
use mathlib.Core.List.{List, [], ◌∷◌}
use mathlib.Core.Bool.{Bool}
use mathlib.Core.Logic.{inl, inr}
use native.Mathlib.Nat.{mod-le}
use native.Mathlib.Decide.{ℕ_discrete, dec_lt}
use native.Mathlib.Omega.{arith}
use lib.Dec.{eqb, leb}
use lib.ListN.{length, get_or, take, drop}
use Rattle.std.specs.Simd.{first_chunks}
use Rattle.std.proofs.lemmas.List.{get_or-take, get_or-drop, length-take-le, get_or_past}
use Rattle.std.proofs.Common.{length-drop}
use Rattle.model.specs.Bytes.{byte, four, NoBitFrom}
use Rattle.model.specs.Decides.{Decides}
use Rattle.model.proofs.Bits.{shr_zero, zero_shr}
use Rattle.model.proofs.Deciding.{is_eq, Says, says, iff, is_le}
use Rattle.model.specs.SchemeBytes.{S, A, I, P, n, at2, at3, at4, at5, at6, field, MoveFits, PolicyFits, MaskFits, Records}
use Rattle.records.proofs.Most.{Most, raised}
use Rattle.tables.specs.declared.counts.Summary.{Summary}
use Rattle.tables.proofs.Places.{Places}
use Rattle.tables.proofs.Grouped.{behind, few_behind}

-- a next state raised by 1 is 0 where it is undefined
unraised : (S x : ℕ) → x < 256 → (x + 1) % 256 ≤ S → MoveFits S x
unraised S x l h = go (ℕ_discrete x 255)
  where
    go : Dec (x ≡ 255) → MoveFits S x
    go (yes e) = inl e
    go (no e) = inr (omega arith)

raised_fits : (S x : ℕ) → MoveFits S x → (x + 1) % 256 ≤ S
raised_fits S x (inl e) = rw e (omega arith)
raised_fits S x (inr l) = omega (arith, mod-le (x + 1) 256)

-- what the greatest of the next states, raised by 1, says of them
pub moves_say : (s : List ℕ) (S most : ℕ) → ((k : ℕ) → byte s k < 256) → Most (raised s 1) (length s) most
    → Says (leb most S) ((k : ℕ) → k < length s → MoveFits S (byte s k))
moves_say s S most small m =
    iff
    (λ l k h. unraised S (byte s k) (small k) ((m S).0 l k h))
    (λ f. (m S).1 (λ k h. raised_fits S (byte s k) (f k h)))
    (is_le most S)

-- and the greatest of some flags
pub flags_say : (s : List ℕ) (most : ℕ) → ((k : ℕ) → byte s k < 256) → Most (raised s 0) (length s) most
    → Says (leb most 1) ((k : ℕ) → k < length s → byte s k ≤ 1)
flags_say s most small m =
    iff (λ l k h. omega (arith, small k, (m 1).0 l k h)) (λ f. (m 1).1 (λ k h. omega (arith, f k h))) (is_le most 1)

-- a set shifted by n is 0 where it has no bit from n
pub none_from : (w n x : ℕ) → x < 2 ^ w → Says (eqb (x / 2 ^ n) 0) (NoBitFrom n x)
none_from w n x l = iff (shr_zero n x) (zero_shr w n x l) (is_eq (x / 2 ^ n) 0)

-- chunk p has the four bytes from p * 4
pub chunk_is : (xs : List ℕ) {chunks : List (List ℕ)} (p : ℕ) → chunks ≡ first_chunks 4 (length xs / 4) xs → p < length xs / 4
    → get_or chunks p [] ≡ byte xs (p * 4) ∷ byte xs (p * 4 + 1) ∷ byte xs (p * 4 + 2) ∷ byte xs (p * 4 + 3) ∷ []
chunk_is xs p e l = rw e (go xs (length xs / 4) p l (omega arith))
  where
    go : (xs : List ℕ) (n p : ℕ) → p < n → n * 4 ≤ length xs
        → get_or (first_chunks 4 n xs) p [] ≡ byte xs (p * 4) ∷ byte xs (p * 4 + 1) ∷ byte xs (p * 4 + 2) ∷ byte xs (p * 4 + 3) ∷ []
    go xs zero p h l = absurd (omega arith)
    go [] (suc n) p h l = absurd (omega arith)
    go (a ∷ []) (suc n) p h l = absurd (omega arith)
    go (a ∷ b ∷ []) (suc n) p h l = absurd (omega arith)
    go (a ∷ b ∷ c ∷ []) (suc n) p h l = absurd (omega arith)
    go (a ∷ b ∷ c ∷ d ∷ xs) (suc n) zero h l = refl
    go (a ∷ b ∷ c ∷ d ∷ xs) (suc n) (suc p) h l =
        let z : suc p * 4 ≡ suc (suc (suc (suc (p * 4)))) = omega arith in
        let e : (i : ℕ) → suc p * 4 + i ≡ suc (suc (suc (suc (p * 4 + i)))) = λ i. omega arith in
        rw (e 1, e 2, e 3, z) (go xs n p (omega arith) (omega arith))

-- what is said of the bytes of each kind
module _ (b : List ℕ) where
  abbrev pub Moves : Type 0
  Moves = (k : ℕ) → k < S b * 2 * A b → MoveFits (S b) (byte b (at2 b + 4 + k))

  abbrev pub Friends : Type 0
  Friends = (q : ℕ) → q < S b → byte b (at3 b + 4 + q) ≤ 1

  abbrev pub Policies : Type 0
  Policies = (p : ℕ) → p < P b → PolicyFits (S b) p (field b p 0) (field b p 1) (field b p 2) (field b p 3)

  abbrev pub Masks : Type 0
  Masks = (r : ℕ) → r < 2 + A b + I b → MaskFits (P b) (four b (at5 b + 4 + r * 4))

  abbrev pub Groups : Type 0
  Groups = (m : ℕ) → m < n b → byte b (at6 b + 4 + m) ≤ 1

-- byte k of a part
part_byte : (b : List ℕ) (from size k : ℕ) → k < size → byte (take size (drop from b)) k ≡ byte b (from + k)
part_byte b from size k l = get_or-take size (drop from b) k 0 l ∙ get_or-drop from b k 0

part_long : (b : List ℕ) (from size : ℕ) → from + size ≤ length b → length (take size (drop from b)) ≡ size
part_long b from size l = length-take-le size (drop from b) (omega (arith, length-drop from b))

-- what is said of the numbers below n, of the same numbers below m
each : {P Q : ℕ → Type 0} {x : Bool} {n m : ℕ} → n ≡ m → ((k : ℕ) → k < m → P k ≡ Q k) → Says x ((k : ℕ) → k < n → P k) → Says x ((k : ℕ) → k < m → Q k)
each {m = m} e f = iff (λ h k l. rw (← f k l) (h k (rw e l))) (λ h k l. let i : k < m = rw e at l in rw (f k i) (h k i))

module _ {b : List ℕ} {c : Summary} {marks policies masks groups : ℕ} (o : Places b c marks policies masks groups) where
  pub fits_moves : (x : Bool) → Records b → let part = take (marks - 4 - 14) (drop 14 b) in Decides x ((k : ℕ) → k < length part → MoveFits c.states (byte part k)) → Says x (Moves b)
  fits_moves x r d =
      let size : marks - 4 - 14 ≡ S b * 2 * A b = omega (arith, o.marks_at) in
      each (part_long b 14 (S b * 2 * A b) (omega (arith, r.moves.0))) (λ k l. ap (MoveFits (S b)) (part_byte b 14 (S b * 2 * A b) k l)) (rw (size, o.counts.states) at (says {b = x} d))

  pub fits_marks : (x : Bool) → Records b → let part = take (policies - 4 - marks) (drop marks b) in Decides x ((q : ℕ) → q < length part → byte part q ≤ 1) → Says x (Friends b)
  fits_marks x r d =
      let size : policies - 4 - marks ≡ S b = omega (arith, o.marks_at, o.policies_at) in
      each (part_long b (at3 b + 4) (S b) (omega (arith, r.friends.0))) (λ q l. rw (part_byte b (at3 b + 4) (S b) q l) refl) (rw (size, o.marks_at) at (says {b = x} d))

  pub fits_policies : (x : Bool) → Records b → let part = take (masks - 4 - policies) (drop policies b) in Decides x ((p : ℕ) → p < length part / 4 → PolicyFits c.states p (byte part (p * 4)) (byte part (p * 4 + 1)) (byte part (p * 4 + 2)) (byte part (p * 4 + 3))) → Says x (Policies b)
  fits_policies x r d =
      let size : masks - 4 - policies ≡ P b * 4 = omega (arith, o.policies_at, o.masks_at) in
      each (omega (arith, part_long b (at4 b + 4) (P b * 4) (omega (arith, r.policies.0)))) (λ p l. rw (same p l 0 (p * 4) (omega arith) (omega arith), same p l 1 _ (omega arith) refl, same p l 2 _ (omega arith) refl, same p l 3 _ (omega arith) refl) refl) (rw (size, o.policies_at, o.counts.states) at (says {b = x} d))
    where
      same : (p : ℕ) → p < P b → (i k : ℕ) → i < 4 → k ≡ p * 4 + i → byte (take (P b * 4) (drop (at4 b + 4) b)) k ≡ field b p i
      same p l i k h e = part_byte b (at4 b + 4) (P b * 4) k (omega arith) ∙ ap (byte b) (omega arith)

  pub fits_masks : (x : Bool) → Records b → let part = take (groups - 4 - masks) (drop masks b) in Decides x ((r : ℕ) → r < length part / 4 → MaskFits c.policies (four part (r * 4))) → Says x (Masks b)
  fits_masks x r d =
      let size : groups - 4 - masks ≡ (2 + A b + I b) * 4 = omega (arith, o.masks_at, o.groups_at) in
      let long = part_long b masks (groups - 4 - masks) (omega (arith, o.masks_at, o.groups_at, r.masks.0)) in
      each (omega (arith, long, size)) (λ k l. ap (MaskFits (P b)) (grind (arith, part_byte b masks (groups - 4 - masks), o.masks_at, size))) (rw o.counts.policies at (says {b = x} d))

  pub fits_groups : (x : Bool) (k : ℕ) → Records b → k ≡ min groups (length b)
      → let part = take (length b - k) (drop k b) in Decides x ((m : ℕ) → m < length part → byte part m ≤ 1)
      → Says x (Groups b)
  fits_groups x k r e d =
      let h : Decides x ((m : ℕ) → m < length (drop (at6 b + 4) b) → byte (drop (at6 b + 4) b) m ≤ 1) = rw (behind b groups k e, o.groups_at) at d in
      iff
      (λ f m l. rw (← get_or-drop (at6 b + 4) b m 0) (each_byte f m (dec_lt m (length (drop (at6 b + 4) b)))))
      (λ f m l. rw (get_or-drop (at6 b + 4) b m 0) (f m (omega (arith, l, few_behind b r))))
      (says {b = x} h)
    where
      each_byte : ((m : ℕ) → m < length (drop (at6 b + 4) b) → byte (drop (at6 b + 4) b) m ≤ 1) → (m : ℕ) → Dec (m < length (drop (at6 b + 4) b))
          → byte (drop (at6 b + 4) b) m ≤ 1
      each_byte f m (yes l) = f m l
      each_byte f m (no l) = rw (get_or_past (drop (at6 b + 4) b) m 0 (omega arith)) (omega arith)
