use Rattle.cases.proofs.Running.{of_case}
use Rattle.cases.proofs.run_next.Goals as goal

pub returns : goal.returns
returns g c = of_case (goal.F-post g c.args.run_case.now) _ _ _ _ c.run_case.result _ _ _ c.run_case.ensures
