-- The four bytes at p's place are policy p.
use Rattle.std.proofs.Common.{arith}
use Rattle.rules.proofs.Rules.{rule_at}
use Rattle.rules.proofs.policy.Goals as goal

pub returns : goal.returns
returns c =
    let s = c.args.scheme.now in
    rule_at s.bytes.now s.counts c.args.p _ _ s.read c.requires (omega (arith, c.policies_at.ensures.1 s.bytes.now s.read.counts)) c.decode.ensures
