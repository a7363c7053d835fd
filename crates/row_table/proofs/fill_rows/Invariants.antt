use Rattle.std.proofs.Common.{◌*◌}
use Rattle.network.specs.Worlds.{graph_in}
use Rattle.columns.specs.Columns.{Columns}
use Rattle.lower_rows.specs.Lower.{FlagsBelow, column_of}
use Rattle.row_table.proofs.Filling.{Table}
use Rattle.row_table.proofs.fill_rows.Given as goal

abbrev pub invariant-loop-part : goal.invariant-loop-part
invariant-loop-part l = record {
  table : Table l.world.scheme.bytes.now l.world.network.now (8 * l.part) l.fn.rows l.rows;
  flagged : FlagsBelow (8 * l.part) l.flags;
  told : Columns (column_of (graph_in l.world) (8 * l.part)) 0 l.columns;
}
