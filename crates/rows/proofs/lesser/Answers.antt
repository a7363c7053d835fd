use Rattle.std.proofs.Common.{arith, ◌+◌}
use Rattle.friend_flags.proofs.Friendships.{all_zero, bytes_inside, states_long, states_small}
use Rattle.rows.proofs.RowBits.{flags_small, first_flags}
use Rattle.rows.proofs.lesser.Goals as goal

pub slice_bounds-mark-end : goal.slice_bounds-mark-end
slice_bounds-mark-end c =
    let a = c.args in
    omega (arith, bytes_inside a.world.now.ready {u = a.u} {at = c.pairs.result + a.from} a.from a.end c.requires.0 c.requires.1 (rw c.pairs.ensures.0))

pub mark-requires : goal.mark-requires
mark-requires c =
    let a = c.args in (
      omega (arith, states_long a.world.now.ready {u = a.u} {at = c.pairs.result + a.from} a.from a.end c.requires.0 c.requires.1 (rw c.pairs.ensures.0)),
      states_small a.world.now.ready a.from a.end c.requires.0 c.requires.1 (rw c.pairs.ensures.0),
    )

pub word-requires : goal.word-requires
word-requires c =
    let a = c.args in (
      omega (arith, c.mark.ensures.long),
      flags_small a.world.now.ready {u = a.u} {at = c.pairs.result + a.from} a.from a.end c.requires.0 c.requires.1 (rw c.pairs.ensures.0) (all_zero 64) c.mark.ensures,
    )

pub returns : goal.returns
returns c =
    let a = c.args in
    first_flags a.world.now.ready {u = a.u} {at = c.pairs.result + a.from} a.from a.end c.requires.0 c.requires.1 (rw c.pairs.ensures.0) (all_zero 64) c.mark.ensures c.word.result c.requires.2 c.word.ensures
