use mathlib.Core.Path.{sym, ◌∙◌}
use mathlib.Core.Bool.{false≢true}
use Rattle.std.proofs.Common.{arith}
use Rattle.relation.proofs.Relating.{near_read, sized_by}
use Rattle.relation.proofs.of_prepared.Goals as goal
use Rattle.relation.proofs.of_prepared.Goals.{then-asked, else-asked, then-asked-2, else-asked-2}

pub returns : goal.returns
returns c =
    let a = c.accessor.inside in
    let w = a.world.now in
    let e = w.ready.counts.members in
    let p = c.accessor.invariant.1 in
    let r = rw (← c.accessor.view_is) at c.requires in
    rw (← c.accessor.view_is)
    (record {
      near = λ k (q, f, l, h). let (limit, m, d) = p.near q k l h in near_read d c.args.u k r.0 m c.read.ensures;
      acquainted = λ asked.
          elim c.if-asked.branch [
            | then-asked b ↦ rw b.acquaintance-is b.between-acquaintance.ensures
            | else-asked b ↦ absurd (false≢true (sym b.if-asked.false ∙ asked))
          ];
      sized = λ asked.
          elim c.if-asked-2.branch [
            | then-asked-2 b ↦
                rw b.clique-is
                (sized_by {b = w.scheme.bytes.now} {net = w.network.now} w.ready (p.all_rows (r.2 asked)) b.largest-clique.ensures (omega (arith, r.0)) (omega (arith, c.accessor.invariant.0)))
            | else-asked-2 b ↦ absurd (false≢true (sym b.if-asked-2.false ∙ asked))
          ];
    })
