use Rattle.std.proofs.Common.{rules}
use borrow.Author.Tests.{true-eqb}
use Rattle.friend_flags.proofs.Telling.{told_marked, one_says}
use Rattle.friend_flags.proofs.mark.Goals as goal

pub returns-then-is_power_of_two : goal.returns-then-is_power_of_two
returns-then-is_power_of_two c =
    told_marked _ _ _ _ _ (λ k t says. one_says _ _ t c.ranges.marks.fits (true-eqb _ _ c.if-is_power_of_two.ensures) (c.requires.1 k) (search rules)) c.tell.ensures

pub returns-else-is_power_of_two : goal.returns-else-is_power_of_two
returns-else-is_power_of_two c = told_marked _ _ _ _ _ (λ k t says. search rules) c.tell-else-is_power_of_two.ensures
