-- Bytes written at the front of an output.
use Rattle.std.specs.Prelude.{ℕ, ◌≤◌, ◌≡◌, Bool, cond, List, ◌++◌, length, drop}
use Rattle.model.specs.Decides.{Decides}

-- it says whether it wrote: where what is asked is so and the output is long enough; else the output stays as it was
pub record Written (Asked : Type 0) (bytes out : List ℕ) (wrote : Bool) (after : List ℕ) : Type 0 where
  pub says : Decides wrote (Asked × (length bytes ≤ length out))
  pub leaves : after ≡ cond wrote (bytes ++ drop (length bytes) out) out
