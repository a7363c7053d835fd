use Rattle.std.proofs.Common.{rules, refl}
use Rattle.std.proofs.lemmas.Bool.Decides.{Decides-eqb}
use Rattle.std.proofs.lemmas.Slice.Eq.{slice_eq-Decides}
use Rattle.sets.proofs.Words.{not_none}
use Rattle.sets.proofs.not_empty.Goals as goal

pub returns : goal.returns
returns c = rw c.ne.ensures (not_none c.args.set (record { four = search rules; fits = search rules }) _ (slice_eq-Decides Decides-eqb _ _ _ refl))
