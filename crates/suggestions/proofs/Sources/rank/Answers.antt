use Rattle.std.proofs.Common.{arith}
use Rattle.suggestions.proofs.Ranking.{rank_none, befriended, far, rank_shared}
use Rattle.suggestions.proofs.Sources.rank.Goals as goal

pub returns-then-has : goal.returns-then-has
returns-then-has c =
    let w = c.args.self.now.world in
    rank_none
    (befriended c.requires.sound (omega (arith, w.ready.counts.members, w.scheme.counts.few_members.1)) (omega (arith, w.ready.counts.members)) c.has.ensures c.if-has.true)

pub returns-then-not-has : goal.returns-then-not-has
returns-then-not-has c =
    let w = c.args.self.now.world in
    rank_none
    (far c.requires.sound (omega (arith, w.ready.counts.members, w.scheme.counts.few_members.1)) (omega (arith, w.ready.counts.members)) c.has-2.ensures c.if-not-has.true)

pub returns : goal.returns
returns c =
    let w = c.args.self.now.world in
    rank_shared c.requires.sound (omega (arith, w.ready.counts.members, w.scheme.counts.few_members.1)) (omega (arith, w.ready.counts.members))
    c.if-found-m-eq0.false c.if-m-self.false c.has.ensures c.if-has.false c.row.ensures c.shared.ensures
