-- Distances up to a limit.
use Prim.Native.Nat.{ℕ, ◌≤◌}
use mathlib.Core.Path.{◌≡◌, refl, ap}
use mathlib.Core.Logic.{◌↔◌}
use native.Mathlib.Omega.{arith}
use Rattle.std.specs.Prelude.{Option, None, Some}
use Rattle.model.specs.Graph.{Graph, Within}
use Rattle.model.proofs.Degrees.{within_more}
use Rattle.distance_mark.specs.Mark.{AtMost, IsDistance}

module _ (g : Graph) (limit u v : ℕ) where
  -- within k, up to the limit, is a distance of at most k
  pub distance_within : (x : Option ℕ) (k : ℕ) → k ≤ limit → IsDistance g limit u v x → Within g k u v ↔ AtMost x k
  distance_within (Some d) k l (b, (w, low)) = (low k, λ h. within_more g u v h w)
  distance_within None k l far = (λ w. far (within_more g u v l w), λ h. absurd h)

  -- at most one
  pub distance_once : (x y : Option ℕ) → IsDistance g limit u v x → IsDistance g limit u v y → x ≡ y
  distance_once (Some d) (Some e) (b, (w, low)) (c, (z, least)) =
      let p : d ≡ e = omega (arith, low e z, least d w) in
      ap Some p
  distance_once (Some d) None (b, (w, low)) far = absurd (far (within_more g u v b w))
  distance_once None (Some e) far (c, (z, least)) = absurd (far (within_more g u v c z))
  distance_once None None far gone = refl
