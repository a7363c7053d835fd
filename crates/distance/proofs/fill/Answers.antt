use mathlib.Core.List.{List}
use Prim.Native.Nat.{ℕ}
use Rattle.std.proofs.Common.{arith}
use Rattle.model.specs.Network.{held}
use Rattle.model.specs.SchemeBytes.{scheme_of}
use Rattle.model.proofs.Deciding.{Inside}
use Rattle.model.proofs.Judging.{world_inside}
use Rattle.network.specs.Ready.{graph_of}
use Rattle.distance.proofs.Layers.{layers_begin, layers_step, layers_ended, layers_distances}
use Rattle.distance.proofs.fill.Goals as goal

inside : (b net : List ℕ) → Inside (graph_of b net)
inside b net = world_inside (scheme_of b) (held (scheme_of b) net)

pub loop-mark-init : goal.loop-mark-init
loop-mark-init c =
    let e = c.args.world.now.ready.counts.members in
    record { layers = layers_begin (omega arith) (omega arith); up_to = omega arith }

pub loop-mark-preserved : goal.loop-mark-preserved
loop-mark-preserved c =
    let e = c.args.world.now.ready.counts.members in
    record { layers = layers_step c.loop-mark.invariant.layers c.layer.ensures (omega arith) (omega arith) (omega arith); up_to = omega arith }

pub returns-then-not-layer : goal.returns-then-not-layer
returns-then-not-layer c =
    let e = c.args.world.now.ready.counts.members in
    layers_ended c.loop-mark.invariant.layers c.layer.ensures (omega arith) (omega arith) (omega arith) c.args.limit
    (inside c.args.world.now.scheme.bytes.now c.args.world.now.network.now) (omega arith) c.if-not-layer.true

-- after the last mark
pub returns-else-not-layer : goal.returns-else-not-layer
returns-else-not-layer c =
    let e = c.args.world.now.ready.counts.members in
    layers_distances c.args.limit (layers_step c.loop-mark.invariant.layers c.layer.ensures (omega arith) (omega arith) (omega arith))
    (inside c.args.world.now.scheme.bytes.now c.args.world.now.network.now) (omega arith) (λ j b o. omega arith)

-- at a limit of 0
pub returns : goal.returns
returns c =
    layers_distances c.args.limit c.loop-mark.invariant.layers (inside c.args.world.now.scheme.bytes.now c.args.world.now.network.now) (omega arith)
    (λ j b o. omega arith)
