use Rattle.rule_admission.specs.Admission.{Admitted}
use Rattle.policies.proofs.judged.Given as goal

abbrev pub invariant-loop-p : goal.invariant-loop-p
invariant-loop-p l = Admitted l.world.scheme.bytes.now l.world.network.now l.u l.v l.from l.p l.set
