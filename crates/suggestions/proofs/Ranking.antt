-- The ranks of members, turn by turn.
use Rattle.std.proofs.Common.{ℕ, zero, suc, refl, replicate, ◌+◌, ◌≤◌, ◌<◌, ◌≡◌, sym, ◌∙◌, Bool, true, false, List, Option, get_or, set, arith, below_none, get_or-set_same, get_or-set_other}
use Rattle.std.proofs.lemmas.List.{length-set, length-replicate}
use mathlib.Core.Bool.{false≢true}
use native.Mathlib.Decide.{ℕ_discrete}
use Rattle.std.specs.Borrow.{Bor}
use Rattle.model.specs.Finding.{World}
use Rattle.model.specs.Suggestions.{Suggestible}
use Rattle.sets.specs.Rows.{row_bit, FriendRow}
use Rattle.sets.specs.Sets.{CommonBits}
use Rattle.suggestions.specs.Ranks.{Sources, Ranked, RanksBelow}

-- m may not be suggested
pub rank_none : {w : World} {v m : ℕ} → (Suggestible w v m → ⊥) → Ranked w v m 0
rank_none n = record { may = λ l. absurd (omega arith); counted = λ s. absurd (n s) }

module _ {w : World} {v m : ℕ} {found near friends persons : List ℕ} {rows : Option (Bor (List (List ℕ)))} (r : Sources w v found near friends persons rows) (few : w.graph.members ≤ 256) (b : m < w.graph.members) where
  friend : row_bit friends m ≡ w.graph.friends v m
  friend = r.own.bits m (omega arith)

  pub befriended : {t : Bool} → t ≡ row_bit friends m → t ≡ true → Suggestible w v m → ⊥
  befriended e t s = s.no_friend (sym friend ∙ sym e ∙ t)

  pub far : {t : Bool} → t ≡ row_bit near m → t ≡ false → Suggestible w v m → ⊥
  far e t s = false≢true (sym t ∙ e ∙ r.around.has m b s.sharing)

  -- m may be suggested, where it shares a friend
  pub rank_shared : {t : Bool} {row : List ℕ} {k : ℕ}
      → (get_or found m 0 ≡ 0 → ⊥)
      → (m ≡ v → ⊥)
      → t ≡ row_bit friends m
      → t ≡ false
      → FriendRow w.graph m row
      → CommonBits friends row persons k
      → Ranked w v m k
  rank_shared f o e t q c =
      let h = c.shares w.graph v m few r.own q r.person_row in
      record {
        may = λ l. record { found = (r.all.exactly m b).0 (omega arith); other = o; no_friend = λ y. false≢true (sym t ∙ e ∙ friend ∙ y); sharing = omega arith };
        counted = λ s. h;
      }

zeros : (n m : ℕ) → get_or {A = ℕ} (replicate n 0) m 0 ≡ 0
zeros zero m = refl
zeros (suc n) zero = refl
zeros (suc n) (suc m) = zeros n m

pub ranks_none : {w : World} {v : ℕ} → RanksBelow w v 0 (replicate 256 0)
ranks_none = record { long = length-replicate {A = ℕ} 256 0; each = below_none _; none = λ m b. zeros 256 m }

pub ranks_next : {w : World} {v i r : ℕ} {ranks : List ℕ} → RanksBelow w v i ranks → i < 256 → Ranked w v i r → RanksBelow w v (i + 1) (set ranks i r)
ranks_next {w} {v} {i} {r} {ranks} x small h = record {
  long = simp length-set x.long;
  each = λ m b. at m b (ℕ_discrete m i);
  none = λ m b. get_or-set_other ranks i m r 0 (λ e. omega arith) ∙ x.none m (omega arith);
}
  where
    at : (m : ℕ) → m < i + 1 → Dec (m ≡ i) → Ranked w v m (get_or (set ranks i r) m 0)
    at m b (yes e) = rw (e, get_or-set_same ranks i r 0 (omega (arith, x.long))) h
    at m b (no n) = rw (get_or-set_other ranks i m r 0 n) (x.each m (omega arith))
