-- A graph has one friend row for each member, and one row of persons.
use Prim.Native.Nat.{ℕ, ◌+◌, ◌*◌, ◌/◌, ◌%◌, ◌<◌}
use mathlib.Core.Path.{◌≡◌, refl, sym, ap, ◌∙◌}
use mathlib.Core.List.{List, []}
use native.Mathlib.Decide.{dec_lt}
use native.Mathlib.Omega.{arith}
use lib.ListN.{length, get_or, replicate, get_or-eq_default}
use lib.Seq.{ext_get_or}
use Rattle.model.specs.Bytes.{bit}
use Rattle.model.specs.Graph.{Graph}
use Rattle.model.proofs.Bits.{set_ext, below_no_bit}
use Rattle.std.proofs.lemmas.List.{get_or-replicate, length-replicate}
use Rattle.friend_flags.proofs.Friendships.{all_zero}
use Rattle.sets.specs.Rows.{row_bit, FriendRow, PersonRow}
use Rattle.sets.proofs.Words.{Words}
use Rattle.row_table.specs.Filled.{RowsFilled}

-- the bits of a row fix its four words
same_row : (a b : List ℕ) → Words a → Words b → ((m : ℕ) → m < 256 → row_bit a m ≡ row_bit b m) → a ≡ b
same_row a b v w same = ext_get_or 0 a b (v.four ∙ sym w.four) (λ i l. word i (omega (arith, v.four)))
  where
    here : (row : List ℕ) (i p : ℕ) → p < 64 → bit (get_or row i 0) p ≡ row_bit row (i * 64 + p)
    here row i p l =
        let d : i ≡ (i * 64 + p) / 64 = omega arith in
        let r : p ≡ (i * 64 + p) % 64 = omega arith in
        ap (λ (x : ℕ). bit (get_or row x 0) p) d ∙ ap (bit (get_or row ((i * 64 + p) / 64) 0)) r

    word : (i : ℕ) → i < 4 → get_or a i 0 ≡ get_or b i 0
    word i l =
        set_ext 64 (get_or a i 0) (get_or b i 0) (below_no_bit 64 (get_or a i 0) (v.fits i)) (below_no_bit 64 (get_or b i 0) (w.fits i))
        (λ p k. here a i p k ∙ same (i * 64 + p) (omega arith) ∙ sym (here b i p k))

pub friend_row_once : (g : Graph) (u : ℕ) (a b : List ℕ) → Words a → Words b → FriendRow g u a → FriendRow g u b → a ≡ b
friend_row_once g u a b v w f h = same_row a b v w (λ m l. f.bits m l ∙ sym (h.bits m l))

pub person_row_once : (g : Graph) (a b : List ℕ) → Words a → Words b → PersonRow g a → PersonRow g b → a ≡ b
person_row_once g a b v w f h = same_row a b v w (λ m l. f.bits m l ∙ sym (h.bits m l))

-- every row of a table is four words
pub record AllWords (rows : List (List ℕ)) : Type 0 where
  pub each : (m : ℕ) → m < length rows → Words (get_or rows m [])

-- so is every row of a table of zeros
pub zeros_words : AllWords (replicate 256 (replicate {A = ℕ} 4 0))
zeros_words = record { each = λ m l. rw (get_or-replicate 256 m (replicate {A = ℕ} 4 0) [] (omega (arith, l, length-replicate 256 (replicate {A = ℕ} 4 0)))) (record { four = refl; fits = λ i. omega (arith, all_zero 4 i) }) }

-- the table of all rows leaves no two results
pub rows_filled_once : (g : Graph) (before after after' : List (List ℕ)) → AllWords after → AllWords after'
    → RowsFilled g before after
    → RowsFilled g before after'
    → (m : ℕ) → get_or after m [] ≡ get_or after' m []
rows_filled_once g before after after' v w f h m = go (dec_lt m (length after)) (dec_lt m g.members)
  where
    same : length after ≡ length after'
    same = f.long ∙ sym h.long

    go : Dec (m < length after) → Dec (m < g.members) → get_or after m [] ≡ get_or after' m []
    go (yes k) (yes l) = friend_row_once g m (get_or after m []) (get_or after' m []) (v.each m k) (w.each m (omega (arith, same))) (f.each m l) (h.each m l)
    go (yes k) (no l) = f.kept m (omega arith) ∙ sym (h.kept m (omega arith))
    go (no k) d = get_or-eq_default after [] (omega arith) ∙ sym (get_or-eq_default after' [] (omega (arith, same)))
