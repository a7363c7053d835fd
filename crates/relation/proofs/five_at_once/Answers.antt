use Rattle.std.proofs.Common.{arith}
use Prim.Native.Nat.{◌≤◌}
use Rattle.network.specs.Worlds.{graph_in}
use Rattle.clique.proofs.Holding.{five}
use Rattle.relation.proofs.Relating.{in_common}
use Rattle.relation.proofs.Undirected.{network_undirected}
use Rattle.relation.proofs.five_at_once.Goals as goal

pub friend_row-requires-3 : goal.friend_row-requires-3
friend_row-requires-3 c =
    let e = c.args.world.now.ready.counts.members in
    let l = in_common c.friend_row.ensures c.meet-common.ensures (c.in-Some.ensures.0.here c.in-Some.ensures.1) in
    omega arith

pub friend_row-requires-4 : goal.friend_row-requires-4
friend_row-requires-4 c =
    let e = c.args.world.now.ready.counts.members in
    let l = in_common c.friend_row-3.ensures c.meet-with_a.ensures (c.in-Some-first_from.ensures.0.here c.in-Some-first_from.ensures.1) in
    omega arith

pub returns : goal.returns
returns c =
    let w = c.args.world.now in
    let e = w.ready.counts.members in
    let range = w.scheme.counts.few_members in
    let few : (graph_in w).members ≤ 256 = omega arith in
    λ h. five few (network_undirected w.scheme.bytes.now w.network.now) (omega arith) (omega arith) c.requires.2
    c.friend_row.ensures
    c.friend_row-2.ensures
    c.meet-common.ensures
    (c.in-Some.ensures.0.here c.in-Some.ensures.1)
    c.friend_row-3.ensures
    c.meet-with_a.ensures
    (c.in-Some-first_from.ensures.0.here c.in-Some-first_from.ensures.1)
    c.friend_row-4.ensures
    c.meet.ensures
    (rw h at c.not_empty.ensures)
