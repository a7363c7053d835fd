-- What the parts of `fill` do to the marks: a member's mark is one more than its distance, or 0 while it has none.
use Rattle.std.specs.Prelude.{ℕ, ◌+◌, ◌<◌, ◌≡◌, Bool, false, List, get_or}
use Rattle.model.specs.Graph.{Graph}
use Rattle.next_friend.specs.Spread.{Spread}

-- the friends of those below i with the mark were tried; where some is false, there was none with it, or everybody has a mark
pub record Layered (g : Graph) (mark : ℕ) (old : List ℕ) (i : ℕ) (new : List ℕ) (some : Bool) : Type 0 where
  pub spread : Spread g (λ j k. (j < i) × (get_or old j 0 ≡ mark)) (mark + 1) old new
  pub ended : some ≡ false → (j : ℕ) → j < i → get_or old j 0 ≡ mark → (k : ℕ) → k < g.members → 0 < get_or new k 0
