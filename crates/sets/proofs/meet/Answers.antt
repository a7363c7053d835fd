use Rattle.std.proofs.Common.{rules}
use Rattle.sets.proofs.Words.{meet_words}
use Rattle.sets.proofs.meet.Goals as goal

pub returns : goal.returns
returns c = meet_words (record { four_a = search rules; four_b = search rules; four = search rules; word_0 = search rules; word_1 = search rules; word_2 = search rules; word_3 = search rules })
