-- The call degree leaves no two results.
use Rattle.std.proofs.Common.{ℕ, ◌≡◌, refl, ap, List, Option, None, Some, Result, Ok, Err, arith}
use Rattle.model.specs.Graph.{Graph}
use Rattle.model.specs.Requests.{find}
use Rattle.model.specs.Calls.{call_needs}
use Rattle.model.proofs.Answering.{answers_unique}
use Rattle.model.proofs.Degrees.{degree_once}
use Rattle.refusals.specs.Numbers.{answer_of}
use Rattle.refusals.specs.declared.Refusal.{Refusal}
use Rattle.refusals.proofs.Apart.{number_apart, number_above}
use Rattle.network.specs.Ready.{graph_of}
use Rattle.degree.specs.Told.{degree_named, Tells, DegreeCalled}

named_once : (x y : Option ℕ) → degree_named x ≡ degree_named y → x ≡ y
named_once (Some d) (Some e) q = cc
named_once (Some d) None q = cc
named_once None (Some e) q = cc
named_once None None q = refl

-- number and degree fix the answer
told_once : (g : Graph) (u v : ℕ) (x y : Result (Option ℕ) Refusal) → Tells g u v x → Tells g u v y → answer_of x ≡ answer_of y → x ≡ y
told_once g u v (Ok x) (Ok y) h i q = ap Ok (named_once x y (degree_once g u v (degree_named x) (degree_named y) h i))
told_once g u v (Ok x) (Err r) h i q = absurd (omega (arith, number_above r))
told_once g u v (Err r) (Ok y) h i q = absurd (omega (arith, number_above r))
told_once g u v (Err r) (Err s) h i q = ap Err (number_apart r s q)

pub degree_called_once : (b net : List ℕ) (v u : ℕ) (x y : Result (Option ℕ) Refusal) → DegreeCalled b net v u x → DegreeCalled b net v u y → x ≡ y
degree_called_once b net v u x y h i =
    told_once (graph_of b net) u v x y h.told i.told
    (answers_unique (call_needs b net (find v u)) (answer_of x) (answer_of y) h.answered i.answered)
