use Rattle.std.proofs.Common.{[], refl}
use Rattle.model.specs.Text.{line_of}
use Rattle.refusals.proofs.Apart.{number_above}
use Rattle.fresh_start.proofs.first.Goals as goal

pub returns-in-Err-clause-stepped : goal.returns-in-Err-clause-stepped
returns-in-Err-clause-stepped c =
    let (refused, kept) = rw c.in-Err.is at c.begin.ensures in
    record {
      line = line_of 0 c.from.result [];
      steps = (c.from.result, rw c.from.ensures refused, rw c.from.ensures (number_above c.in-Err.refusal), refl);
      put = c.line.ensures.0.put;
      only = kept;
    }
