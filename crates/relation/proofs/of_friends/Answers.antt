use mathlib.Core.Path.{sym, ◌∙◌}
use mathlib.Core.Bool.{false≢true}
use mathlib.Core.Logic.{inr, ⊎_elim}
use Rattle.network.specs.Worlds.{graph_in}
use Rattle.relation.proofs.Relating.{near_friend}
use Rattle.relation.proofs.of_friends.Goals as goal

pub returns-then-clique : goal.returns-then-clique
returns-then-clique c =
    let f = ⊎_elim (λ e. absurd (c.if-u-v.false e)) (λ f. f) c.requires.2 in
    record { near = near_friend (graph_in c.args.world.now) _ _ f; acquainted = λ t. inr f; sized = λ asked. c.clique_of_friends-size.ensures }

pub returns-else-clique : goal.returns-else-clique
returns-else-clique c =
    let f = ⊎_elim (λ e. absurd (c.if-u-v.false e)) (λ f. f) c.requires.2 in
    record { near = near_friend (graph_in c.args.world.now) _ _ f; acquainted = λ t. inr f; sized = λ asked. absurd (false≢true (sym c.if-clique.false ∙ asked)) }
