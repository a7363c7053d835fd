-- The result is the rule's answer.
use Rattle.std.proofs.Common.{bit_and, bit_or, get_or, inl, inr}
use Rattle.strangers.proofs.Strangers.{told}
use Rattle.strangers.proofs.rule_sides.Goals as goal

pub returns-in-NoOne : goal.returns-in-NoOne
returns-in-NoOne c =
    let a = c.args in
    told a.scheme.now.bytes.now a.sides.now a.p a.rule 0 c.requires.0 c.requires.2
    (elim c.in-NoOne.is [ inl e ↦ rw e | inr (inl e) ↦ rw e | inr (inr (inl (k, e))) ↦ rw e | inr (inr (inr (inl (k, e)))) ↦ rw e | inr (inr (inr (inr (k, e)))) ↦ rw e ])

pub returns-in-Both : goal.returns-in-Both
returns-in-Both c =
    let a = c.args in
    told a.scheme.now.bytes.now a.sides.now a.p a.rule (bit_and (get_or a.sides.now c.from-in-Both.result 0) (get_or a.sides.now c.from-in-Both-2.result 0)) c.requires.0
    c.requires.2
    (rw (c.in-Both.is, c.from-in-Both.ensures, c.from-in-Both-2.ensures))

pub returns-in-Either : goal.returns-in-Either
returns-in-Either c =
    let a = c.args in
    told a.scheme.now.bytes.now a.sides.now a.p a.rule (bit_or (get_or a.sides.now c.from-in-Either.result 0) (get_or a.sides.now c.from-in-Either-2.result 0)) c.requires.0
    c.requires.2
    (rw (c.in-Either.is, c.from-in-Either.ensures, c.from-in-Either-2.ensures))
