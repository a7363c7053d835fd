use Rattle.std.proofs.Common.{rules, tests}
use Rattle.std.proofs.lemmas.Iterator.{YieldsList-from_slice, YieldsList-from_map, YieldsList-from_zip}
use Rattle.std.proofs.lemmas.Iterator.Consumers.{sum_from_yields_List, fits_from_yields_list}
use Rattle.sets.proofs.CommonBits.{in_common, words_common, few_common}
use Rattle.sets.proofs.shared.Goals as goal

pub sum-requires-clause-fits : goal.sum-requires-clause-fits
sum-requires-clause-fits c =
    fits_from_yields_list c.map.result _ (YieldsList-from_map _ in_common (YieldsList-from_zip (YieldsList-from_zip (YieldsList-from_slice c.args.a cc) (YieldsList-from_slice c.args.b cc)) (YieldsList-from_slice c.args.c cc)) c.map.ensures.closure (λ x r q k. search (rules, tests)))
    (few_common c.args.a c.args.b c.args.c (search rules) (search rules) (search rules))

pub returns : goal.returns
returns c = rw (sum_from_yields_List c.map.result c.sum.result c.sum.ensures.ran (YieldsList-from_map _ in_common (YieldsList-from_zip (YieldsList-from_zip (YieldsList-from_slice c.args.a cc) (YieldsList-from_slice c.args.b cc)) (YieldsList-from_slice c.args.c cc)) c.map.ensures.closure (λ x r q k. search (rules, tests)))) (words_common c.args.a c.args.b c.args.c (search rules) (search rules) (search rules))
