use Rattle.std.proofs.Common.{arith}
use Rattle.traces.proofs.Turning.{start, start_kept, stored, then, then_kept, ended, ended_kept}
use Rattle.traces.proofs.run.Goals as goal

pub loop-n-init : goal.loop-n-init
loop-n-init c = record { so_far = start _ _ _ _ _ _; kept = start_kept _ _ _ }

pub loop-n-preserved : goal.loop-n-preserved
loop-n-preserved c =
    let at = c.loop-n.invariant in
    let s = c.call-reply in
    let turned = stored c.args.scheme.now c.loop-n.network c.args.encoded.now c.loop-n.n c.loop-n.lists s.new.lists s.new.network s.result c.answer.ensures c.unwrap_or.ensures s.ensures in
    record {
      so_far = then _ _ _ _ _ _ _ _ _ _ _ _ (omega arith) (omega arith) (omega arith) (omega arith) at.so_far turned;
      kept = then_kept _ _ _ _ _ _ _ _ _ _ (omega arith) at.kept turned.1 turned.2;
    }

pub returns-clause-ran : goal.returns-clause-ran
returns-clause-ran c = ended _ _ _ _ _ _ _ _ _ (omega arith) c.loop-n.invariant.so_far

pub returns-clause-kept : goal.returns-clause-kept
returns-clause-kept c = ended_kept _ _ _ _ _ _ _ _ (omega arith) c.loop-n.invariant.kept
