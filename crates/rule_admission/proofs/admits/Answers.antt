use Rattle.std.proofs.Common.{◌≡◌, ◌∙◌, ap}
use Rattle.model.specs.Bytes.{bit}
use Rattle.rule_admission.proofs.Granting.{within_told, known_told, clique_told, both_told, either_told}
use Rattle.rule_admission.proofs.admits.Goals as goal

pub returns-in-Within : goal.returns-in-Within
returns-in-Within c = within_told c.requires.0 c.in-Within.k _ c.in-Within.is (rw c.from.ensures at c.within.ensures)

pub returns-in-Known : goal.returns-in-Known
returns-in-Known c = known_told c.requires.0 c.in-Known.k _ c.in-Known.is (rw c.from-in-Known.ensures at c.admits.ensures)

pub returns-else-u-v : goal.returns-else-u-v
returns-else-u-v c = rw c.from-else-u-v.ensures (clique_told c.requires.0 c.in-Clique.k c.in-Clique.is c.if-u-v.false)

pub returns-in-State : goal.returns-in-State
returns-in-State c = rw c.in-State.is c.in_state.ensures

pub returns-in-Both : goal.returns-in-Both
returns-in-Both c =
    let l : c.offered.result ≡ bit c.args.set c.in-Both.left = c.offered.ensures ∙ ap (bit c.args.set) c.from-in-Both.ensures in
    let r : c.offered-in-Both.result ≡ bit c.args.set c.in-Both.right = c.offered-in-Both.ensures ∙ ap (bit c.args.set) c.from-in-Both-2.ensures in
    rw (l, r) (both_told c.requires.0 c.in-Both.left c.in-Both.right c.in-Both.is)

pub returns-in-Either : goal.returns-in-Either
returns-in-Either c =
    let l : c.offered-in-Either.result ≡ bit c.args.set c.in-Either.left = c.offered-in-Either.ensures ∙ ap (bit c.args.set) c.from-in-Either.ensures in
    let r : c.offered-in-Either-2.result ≡ bit c.args.set c.in-Either.right = c.offered-in-Either-2.ensures ∙ ap (bit c.args.set) c.from-in-Either-2.ensures in
    rw (l, r) (either_told c.requires.0 c.in-Either.left c.in-Either.right c.in-Either.is)
