use Rattle.std.proofs.Common.{refl, ◌∙◌}
use Rattle.friend_flags.proofs.Packing.{eight_packed}
use Rattle.friend_flags.proofs.eight.Goals as goal

pub returns : goal.returns
returns c = eight_packed c.args.flags.now c.args.at c.requires.1 _ _ _ (c.from.ensures ∙ c.four-2.ensures) (c.from-high.ensures ∙ c.four.ensures) refl
