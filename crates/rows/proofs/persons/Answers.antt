use borrow.Author.Tests.{eqb-true}
use Rattle.std.proofs.Common.{refl, sym, ◌∙◌, length}
use Rattle.model.proofs.Computing.{every}
use Rattle.model.proofs.Deciding.{every_holds}
use Rattle.network.specs.Worlds.{graph_in}
use Rattle.rows.proofs.PersonFlags.{flags_fit, person_row, all_persons}
use Rattle.rows.proofs.persons.Goals as goal

pub returns-then-is_empty : goal.returns-then-is_empty
unfolding every
returns-then-is_empty c = all_persons (graph_in c.args.world.now) c.groups-groups.result.now c.groups-groups.ensures.each (eqb-true (length c.groups-groups.result.now) 0 (sym c.is_empty.ensures ∙ c.if-is_empty.true)) (every_holds _ 256 refl)

pub packed-requires : goal.packed-requires
packed-requires c = flags_fit (graph_in c.args.world.now).group c.groups-groups.ensures.each c.mark.ensures

pub returns : goal.returns
returns c = person_row (graph_in c.args.world.now).group c.groups-groups.ensures.each c.mark.ensures (graph_in c.args.world.now) refl c.packed.ensures
