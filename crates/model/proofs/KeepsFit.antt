-- Under an accepted scheme maps that fit stay so.
use Prim.Native.Nat.{ℕ, ◌+◌, ◌*◌, ◌^◌, ◌<◌, ◌≤◌}
use mathlib.Core.Path.{◌≡◌}
use mathlib.Core.Bool.{true}
use mathlib.Core.List.{List}
use mathlib.Core.Logic.{◌⊎◌, inl, inr}
use native.Mathlib.Omega.{arith}
use native.Mathlib.Nat.{pow-le-pow_right}
use lib.Arith.{digits_lt}
use Rattle.model.specs.Bytes.{bit, byte, four, NoBitFrom}
use Rattle.model.specs.Scheme.{Scheme, resources, lowest}
use Rattle.model.specs.SchemeBytes.{S, A, P, at2, at5, scheme_of, scheme_needs, Accepted, BytesFit, CountsFit}
use Rattle.model.specs.Requests.{Defined}
use Rattle.model.proofs.Bits.{lowest_in, no_bit_below}
use Rattle.model.proofs.Answering.{granted_met}

-- what makes fresh maps fit, and keeps maps that fit so
pub record KeepsFit (c : Scheme) : Type 0 where
  pub some_state : 0 < c.states
  pub moves : (q b a : ℕ) → q < c.states → b < 2 → a < c.primitives → Defined (c.move q b a) → c.move q b a < c.states
  pub masks : (r : ℕ) → r < resources c → bit (c.mask r) (lowest (c.mask r)) ≡ true

pub accepted_keeps : (b : List ℕ) → Accepted b → KeepsFit (scheme_of b)
accepted_keeps b h = go (granted_met (scheme_needs b) (omega arith) h).1.0 (granted_met (scheme_needs b) (omega arith) h).1.1.1.0
  where
    go : CountsFit b → BytesFit b → KeepsFit (scheme_of b)
    go c f = record {
      some_state = omega arith;
      moves = λ q s a x y z d. move q s a (f.moves ((q * 2 + s) * A b + a) (digits_lt (digits_lt x y) z)) d;
      masks = λ r l. lowest_in (four b (at5 b + 4 + r * 4)) (f.masks r l).0 (small (f.masks r l).1);
    }
      where
        move : (q s a : ℕ) → (byte b (at2 b + 4 + ((q * 2 + s) * A b + a)) ≡ 255) ⊎ (byte b (at2 b + 4 + ((q * 2 + s) * A b + a)) < S b)
            → Defined (byte b (at2 b + 4 + ((q * 2 + s) * A b + a))) → byte b (at2 b + 4 + ((q * 2 + s) * A b + a)) < S b
        move q s a (inl e) d = absurd (d e)
        move q s a (inr k) d = k

        small : {x : ℕ} → NoBitFrom (P b) x → x < 2 ^ 32
        small {x} n = let l = no_bit_below (P b) x n in let k : 2 ^ P b ≤ 2 ^ 32 = pow-le-pow_right (omega arith) c.policies.1 in omega arith
