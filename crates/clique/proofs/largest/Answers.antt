use Rattle.std.proofs.Common.{sym, ◌∙◌, arith}
use Rattle.clique.proofs.Holding.{some_member, none_asked, no_friends, friends_with}
use Rattle.clique.proofs.largest.Goals as goal

pub returns-then-not-has : goal.returns-then-not-has
returns-then-not-has c = let a = c.args in no_friends a.rows.now a.u a.v (sym c.has.ensures ∙ c.if-not-has.true)

pub returns-then-not-not_empty : goal.returns-then-not-not_empty
returns-then-not-not_empty c =
    friends_with 0 (sym c.has.ensures ∙ c.if-not-has.false) c.meet-common.ensures (omega arith) none_asked
    (λ l. some_member (c.if-not-not_empty.ensures) c.args.rows.now 0)

pub returns-then-not-has_pair : goal.returns-then-not-has_pair
returns-then-not-has_pair c =
    friends_with 1 (sym c.has.ensures ∙ c.if-not-has.false) c.meet-common.ensures (omega arith) (some_member (c.if-not-not_empty.ensures) c.args.rows.now 0)
    (λ l. c.if-not-has_pair.ensures)

pub returns-then-not-has_triangle : goal.returns-then-not-has_triangle
returns-then-not-has_triangle c =
    friends_with 2 (sym c.has.ensures ∙ c.if-not-has.false) c.meet-common.ensures (omega arith) (c.if-not-has_pair.ensures)
    (λ l. c.if-not-has_triangle.ensures)

pub returns : goal.returns
returns c =
    friends_with 3 (sym c.has.ensures ∙ c.if-not-has.false) c.meet-common.ensures (omega arith) (c.if-not-has_triangle.ensures)
    (λ l. absurd (omega arith))
