use Rattle.std.proofs.Common.{◌≤◌, arith, inl, inr, ◌∙◌, sym}
use Rattle.network.specs.Ready.{graph_of}
use Rattle.known.proofs.ByRow.{friends_by_row}
use Rattle.known.proofs.between.Goals as goal
use Rattle.known.proofs.between.Goals.{then-u-v-via-then-u-v, then-u-v-via-else-u-v+then-has}

pub returns-then-u-v : goal.returns-then-u-v
returns-then-u-v c =
    let e = friends_by_row c.args.world.now.scheme.bytes.now c.args.world.now.network.now c.args.u c.args.v (omega arith) c.requires.2 in
    elim c.then-u-v.branch [ then-u-v-via-then-u-v w ↦ inl w.if-u-v.true | then-u-v-via-else-u-v+then-has w ↦ inr (e ∙ sym w.has.ensures ∙ w.if-has.true) ]

pub returns : goal.returns
returns c =
    let w = c.args.world.now in
    let e = friends_by_row w.scheme.bytes.now w.network.now c.args.u c.args.v (omega arith) c.requires.2 in
    let few : (graph_of w.scheme.bytes.now w.network.now).members ≤ 256 = omega arith in (
      c.if-u-v.false,
      e ∙ sym c.has.ensures ∙ c.if-has.false,
      c.shared.ensures.shares _ c.args.u c.args.v few c.friend_row-of_u.ensures c.requires.2 c.requires.3,
    )
