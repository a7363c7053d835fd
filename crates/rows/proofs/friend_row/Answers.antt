use Rattle.std.proofs.Common.{arith, rules, ◌*◌}
use Rattle.network.specs.Worlds.{graph_in}
use Rattle.network.proofs.Reading.{ready_range, friends_outside}
use Rattle.sets.proofs.Made.{made_each}
use Rattle.rows.specs.Words.{FirstBits}
use Rattle.rows.proofs.RowBits.{friend_row}
use Rattle.rows.proofs.friend_row.Goals as goal

pub returns : goal.returns
returns c =
    let w = c.args.world.now in
    friend_row (graph_in w) c.args.u c.from_fn.result (omega (arith, w.ready.counts, ready_range w.ready)) (friends_outside w.scheme.bytes.now w.network.now c.args.u) c.from_fn.ensures.items.long
    (made_each (λ i y. FirstBits (graph_in w) c.args.u (64 * i) 64 y) (λ i y f l k. (search (k.met, rules), search (k.met, rules))) c.from_fn.ensures.items)
