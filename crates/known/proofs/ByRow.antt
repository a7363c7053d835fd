-- Friendship by the other's row.
use Rattle.std.proofs.Common.{◌≡◌, ℕ, ◌<◌, List, sym, ◌∙◌}
use Rattle.model.specs.Network.{held}
use Rattle.model.specs.SchemeBytes.{scheme_of}
use Rattle.model.proofs.Symmetry.{friends_comm}
use Rattle.network.specs.Ready.{graph_of}
use Rattle.sets.specs.Rows.{row_bit, FriendRow}

pub friends_by_row : (scheme network : List ℕ) (u v : ℕ) {row : List ℕ} → u < 256 → FriendRow (graph_of scheme network) v row
    → (graph_of scheme network).friends u v ≡ row_bit row u
friends_by_row scheme network u v h f = friends_comm (scheme_of scheme) (held (scheme_of scheme) network) u v ∙ sym (f.bits u h)
