use Rattle.tables.proofs.Grouped.{group_bytes}
use Rattle.tables.proofs.reading.Scheme.groups.Goals as goal

pub returns : goal.returns
returns c = group_bytes c.args.self.now c.groups_at.result c.min.result (c.groups_at.ensures.1 _ c.args.self.now.read.counts) c.min.ensures
