-- Those who are one or friends find each other.
use Rattle.std.proofs.Common.{◌∙◌, sym, inl, inr}
use Rattle.checks.proofs.NearFound.{near_found}
use Rattle.checks.proofs.near.Goals as goal

pub returns-then-u-v-clause-found : goal.returns-then-u-v-clause-found
returns-then-u-v-clause-found c = λ e. near_found c.args.world.now c.args.v c.args.u c.requires.1 (inl c.if-u-v.true)

pub returns-else-u-v-clause-found : goal.returns-else-u-v-clause-found
returns-else-u-v-clause-found c = λ e. near_found c.args.world.now c.args.v c.args.u c.requires.1 (inr (sym c.friends.ensures ∙ e))
