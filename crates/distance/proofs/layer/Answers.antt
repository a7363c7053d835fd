use Rattle.std.proofs.Common.{arith}
use Rattle.next_friend.proofs.Spreading.{marked_to, still_marked}
use Rattle.distance.proofs.LayerTurns.{layer_pass, layer_hit, layer_full}
use Rattle.distance.proofs.layer.Goals as goal
use Rattle.distance.proofs.layer.Goals.{then-distances-m+in-Some, else-distances-m}

pub returns-in_default : goal.returns-in_default
returns-in_default c =
    let e = c.args.world.now.ready.counts.members in
    layer_full c.loop-m.invariant.layered c.requires.0 (omega arith) (omega arith) (λ k b. marked_to _ c.loop-m.invariant.marked.below c.in_default.ensures k (omega arith))

pub spread-requires : goal.spread-requires
spread-requires c =
    let e = c.args.world.now.ready.counts.members in
    (omega arith, omega arith, record { inside = omega (arith, c.in-Some.ensures.1); below = marked_to _ c.loop-m.invariant.marked.below c.in-Some.ensures.3 })

pub loop-m-preserved : goal.loop-m-preserved
loop-m-preserved c =
    let x = c.loop-m.invariant.layered in
    let e = c.args.world.now.ready.counts.members in
    elim c.if-distances-m.branch [
      | then-distances-m+in-Some w ↦
          rw (w.distances-is, w.from-is, w.some-is)
          (record {
            layered = layer_hit x c.requires.0 (omega arith) w.if-distances-m.true w.spread.ensures;
            marked = still_marked w.spread.ensures (omega arith) (omega arith) (record { inside = omega (arith, w.in-Some.ensures.1); below = marked_to _ c.loop-m.invariant.marked.below w.in-Some.ensures.3 });
          })
      | else-distances-m w ↦
          rw (w.distances-is, w.from-is, w.some-is)
          (record { layered = layer_pass x c.requires.0 (omega arith) w.if-distances-m.false; marked = c.loop-m.invariant.marked })
    ]
