-- The row of persons, off the bytes that say who is a group.
use Prim.Native.Nat.{ℕ, zero, suc, ◌+◌, ◌%◌, ◌≤◌, ◌<◌}
use mathlib.Core.Path.{◌≡◌, refl, sym, ap, ◌∙◌}
use mathlib.Core.Bool.{Bool, true, false, not}
use mathlib.Core.List.{List}
use native.Mathlib.Omega.{arith}
use native.Mathlib.Decide.{dec_lt}
use lib.Dec.{eqb}
use lib.ListN.{length, get_or, get_or-eq_default, replicate}
use Rattle.std.proofs.lemmas.List.{length-replicate}
use Rattle.model.specs.Bytes.{bit}
use Rattle.model.specs.Graph.{Graph, one}
use Rattle.friend_flags.specs.Flags.{flag, Flagged}
use Rattle.friend_flags.proofs.Friendships.{flag_small}
use Rattle.sets.specs.Rows.{row_bit, PersonRow}

all_one : (n k : ℕ) → k < n → ◌≡◌ {A = ℕ} (get_or (replicate n 1) k 0) 1
all_one zero k h = absurd (omega arith)
all_one (suc n) zero h = refl
all_one (suc n) (suc k) h = all_one n k (omega arith)

-- a byte is in the set of 0 alone where it says person
of_person : (t : Bool) → bit 1 (one t % 32) ≡ not t
of_person true = refl
of_person false = refl

no_group : (t : Bool) → one t ≡ 0 → flag (not t) ≡ 1
no_group true e = absurd (omega arith)
no_group false e = refl

flag_says : (t : Bool) → eqb (flag t) 1 ≡ t
flag_says true = refl
flag_says false = refl

module _ (group : ℕ → Bool) {bytes flags : List ℕ} (says : (m : ℕ) → get_or bytes m 0 ≡ one (group m)) (f : Flagged bytes 1 0 (length bytes) (replicate 256 1) flags) where
  person_flag : (m : ℕ) → m < 256 → get_or flags m 0 ≡ flag (not (group m))
  person_flag m h = go (dec_lt m (length bytes))
    where
      go : Dec (m < length bytes) → get_or flags m 0 ≡ flag (not (group m))
      go (yes l) =
          let z : 0 + m ≡ m = omega arith in
          f.each m l
          ∙ ap (λ (k : ℕ). flag (bit 1 (get_or bytes k 0 % 32))) z
          ∙ ap (λ (x : ℕ). flag (bit 1 (x % 32))) (says m)
          ∙ ap flag (of_person (group m))
      go (no l) =
          let past : get_or bytes m 0 ≡ 0 = get_or-eq_default bytes 0 {n = m} (omega arith) in
          f.kept m (omega arith) ∙ all_one 256 m h ∙ sym (no_group (group m) (sym (says m) ∙ past))

  pub flags_fit : (m : ℕ) → get_or flags m 0 ≤ 1
  flags_fit m = go (dec_lt m 256)
    where
      go : Dec (m < 256) → get_or flags m 0 ≤ 1
      go (yes h) = rw (person_flag m h) (flag_small (not (group m)))
      go (no h) = omega (arith, get_or-eq_default flags 0 {n = m} (omega (arith, f.long, length-replicate {A = ℕ} 256 1)))

  pub person_row : (g : Graph) {row : List ℕ} → g.group ≡ group → ((m : ℕ) → m < 256 → row_bit row m ≡ eqb (get_or flags m 0) 1) → PersonRow g row
  person_row g e bits = record { bits = λ m h. bits m h ∙ ap (λ (x : ℕ). eqb x 1) (person_flag m h) ∙ flag_says (not (group m)) ∙ ap (λ (p : ℕ → Bool). not (p m)) (sym e) }

-- without a sixth record every bit is set
pub all_persons : (g : Graph) (bytes : List ℕ) → ((m : ℕ) → get_or bytes m 0 ≡ one (g.group m)) → length bytes ≡ 0 → {row : List ℕ}
    → ((m : ℕ) → m < 256 → row_bit row m ≡ true)
    → PersonRow g row
all_persons g bytes says none all = record { bits = λ m h. all m h ∙ sym (person (g.group m) (sym (says m) ∙ get_or-eq_default bytes 0 {n = m} (omega arith))) }
  where
    person : (t : Bool) → one t ≡ 0 → not t ≡ true
    person true e = absurd (omega arith)
    person false e = refl
