-- Friendship goes both ways, and nobody is its own friend.
use Prim.Native.Nat.{ℕ}
use mathlib.Core.Path.{◌≡◌, refl, sym, ap₂, ◌∙◌}
use mathlib.Core.Bool.{Bool, false, ◌&&◌, not, and_comm, and-false}
use native.Mathlib.Decide.{ℕ_discrete}
use native.Mathlib.Nat.{min_comm, max_comm}
use borrow.Author.Tests.{eq-eqb, ne_eqb}
use lib.Dec.{eqb, ltb}
use Rattle.model.specs.Network.{Maps, state_of, world}
use Rattle.model.specs.Scheme.{Scheme}

eqb_comm : (u v : ℕ) → eqb u v ≡ eqb v u
eqb_comm u v = go (ℕ_discrete u v)
  where
    go : Dec (u ≡ v) → eqb u v ≡ eqb v u
    go (yes e) = eq-eqb u v e ∙ sym (eq-eqb v u (sym e))
    go (no n) = ne_eqb u v n ∙ sym (ne_eqb v u (λ e. n (sym e)))

pub state_comm : (s : Maps) (u v : ℕ) → state_of s u v ≡ state_of s v u
state_comm s u v = rw (eqb_comm u v, min_comm u v, max_comm u v)

module _ (c : Scheme) (s : Maps) where
  pub friends_comm : (u v : ℕ) → (world c s).graph.friends u v ≡ (world c s).graph.friends v u
  friends_comm u v =
      ap₂ (λ (b : Bool) (q : ℕ). b && c.friendly q)
      (ap₂ (λ (a b : Bool). a && not b) (and_comm (ltb u c.members) (ltb v c.members)) (eqb_comm u v))
      (state_comm s u v)

  pub none_own : (u : ℕ) → (world c s).graph.friends u u ≡ false
  none_own u = simp (eq-eqb u u refl, and-false)
