-- Members that are one or friends.
use Rattle.std.proofs.Common.{ℕ, ◌<◌, ◌≡◌, refl, ◌∙◌, [], ◌⊎◌, inl, inr, arith}
use Rattle.model.specs.Finding.{Finds}
use Rattle.model.specs.Graph.{Friends}
use Rattle.model.specs.Network.{held}
use Rattle.model.specs.SchemeBytes.{scheme_of}
use Rattle.model.proofs.Symmetry.{friends_comm}
use Rattle.network.specs.Worlds.{members_in, world_in, graph_in}
use Rattle.network.specs.declared.world.World.{World}

-- a member finds itself, and its friends
pub near_found : (w : World) (v u : ℕ) → u < members_in w → (u ≡ v) ⊎ Friends (graph_in w) u v → Finds (world_in w) v u
near_found w v u l (inl e) = (u, [], (omega (arith, w.ready.counts.members), inl e), refl)
near_found w v u l (inr f) =
    let s = scheme_of w.scheme.bytes.now in
    (u, [], (omega (arith, w.ready.counts.members), inr (inl (friends_comm s (held s w.network.now) v u ∙ f))), refl)
