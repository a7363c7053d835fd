use Rattle.std.proofs.Common.{arith, ap, ◌≡◌, ◌≤◌, ◌<◌}
use Rattle.model.specs.SchemeBytes.{n}
use Rattle.prepared.specs.Asking.{Asking}
use Rattle.starts.proofs.StartsMarked.{named_other, skip_seen, skip_other, skip_refused, add_allowed}
use Rattle.starts.proofs.search.Goals as goal
use Rattle.starts.proofs.search.Goals.{then-seen-k-eq0+then-ne+then-allows, else-seen-k-eq0, else-seen-k-eq0-via-then-seen-k-eq0+then-ne+else-allows, else-seen-k-eq0-via-then-seen-k-eq0+else-ne, else-seen-k-eq0-via-else-seen-k-eq0}

pub loop-k-preserved : goal.loop-k-preserved
loop-k-preserved c =
    let x = c.loop-k.invariant in
    let w = c.accessor.inside.world.now in
    let e : n w.scheme.bytes.now ≡ n c.args.accessor.now.scheme = ap (λ (a : Asking). n a.scheme) c.accessor.view_is in
    let m = w.ready.counts.members in
    let small : n c.args.accessor.now.scheme ≤ 256 = omega (arith, w.scheme.counts.few_members) in
    let below : c.loop-k.k < n c.args.accessor.now.scheme = omega (arith, c.members-k-end.ensures) in
    elim c.if-seen-k-eq0.branch [
      | then-seen-k-eq0+then-ne+then-allows w ↦ rw w.seen-is (add_allowed x small below w.if-seen-k-eq0.true w.if-allows.true w.allows.ensures)
      | else-seen-k-eq0 w ↦
          rw w.seen-is
          (elim w.else-seen-k-eq0.branch [
            | else-seen-k-eq0-via-then-seen-k-eq0+then-ne+else-allows q ↦ skip_refused x q.if-allows.false q.allows.ensures
            | else-seen-k-eq0-via-then-seen-k-eq0+else-ne q ↦ skip_other x (named_other _ c.args.u c.loop-k.k c.requires q.ne.ensures q.if-ne.false below)
            | else-seen-k-eq0-via-else-seen-k-eq0 q ↦ skip_seen x q.if-seen-k-eq0.false
          ])
    ]
