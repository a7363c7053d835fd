-- What is asked of a member of a world.
use Rattle.std.specs.Prelude.{ℕ}
use Rattle.prepared.specs.Asking.{Asking}
use Rattle.network.specs.declared.world.World.{World}

-- member v of a world, as the one that asks
abbrev pub asking_in : World → ℕ → Asking
asking_in w v = record { scheme = w.scheme.bytes.now; network = w.network.now; v = v }
