use Rattle.std.proofs.Common.{ℕ, ◌+◌, arith}
use Rattle.std.proofs.lemmas.List.{get_or-take, get_or-drop}
use Rattle.model.proofs.Deciding.{decided, says, iff}
use Rattle.validity.proofs.Validity.{most_below, none_above, valid_states, valid_offered, offered_below, valid_if}
use Rattle.validity.proofs.valid.Goals as goal

pub returns-then-from-scheme : goal.returns-then-from-scheme
returns-then-from-scheme c v =
    let s = c.args.scheme.now in
    let e = c.split_at.ensures in
    let small = valid_states s c.args.network.now c.pairs.ensures.0 e.front e.back e.front_len e.back_len v in
    omega (arith, most_below _ _ s.counts.states c.greatest.ensures (omega arith) (omega arith) small)

pub returns-then-most-ge32 : goal.returns-then-most-ge32
returns-then-most-ge32 c v =
    let s = c.args.scheme.now in
    let n = c.args.network.now in
    let e = c.split_at.ensures in
    let p = c.pairs.ensures.0 in
    let small = offered_below s n p e.front e.back e.front_len e.back_len v.sized (valid_offered s n p e.front e.back e.front_len e.back_len v) in
    omega (arith, most_below _ _ 32 c.greatest-most.ensures (omega arith) (omega arith) small)

pub settings_offered-requires-clause-by_index : goal.settings_offered-requires-clause-by_index
settings_offered-requires-clause-by_index c k l =
    (c.up_to.ensures _).1 (none_above _ _ k c.greatest-most.ensures (rw (c.split_at.ensures.back, get_or-drop {A = ℕ} _ _ k 0) (omega (arith, c.type_inv.network (c.pairs.result + k)))) l)

pub returns : goal.returns
returns c =
    let s = c.args.scheme.now in
    let n = c.args.network.now in
    let e = c.split_at.ensures in
    let p = c.pairs.ensures.0 in
    decided
    (iff
    (valid_if s n p e.front e.back e.front_len e.back_len (omega arith) (λ k l. omega (arith, none_above _ _ k c.greatest.ensures (rw (e.front, get_or-take {A = ℕ} c.pairs.result n k 0 (omega (arith, e.front_len))) (omega (arith, c.type_inv.network k))) l)))
    (valid_offered s n p e.front e.back e.front_len e.back_len)
    (says c.settings_offered.ensures))
