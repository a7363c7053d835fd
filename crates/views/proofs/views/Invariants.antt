use Rattle.std.proofs.Common.{◌≡◌}
use Rattle.model.specs.Questions.{FilledIn}
use Rattle.views.specs.Answered.{question_of}
use Rattle.views.specs.Marked.{Marked}
use Rattle.views.proofs.Answering.{nobody}
use Rattle.views.proofs.Filling.{FilledBelow}
use Rattle.views.proofs.views.Given as goal

abbrev pub invariant-loop-question : goal.invariant-loop-question
invariant-loop-question l =
    (l.viewer.world.scheme.bytes.now ≡ l.scheme)
    × (l.viewer.world.network.now ≡ l.network)
    × Marked l.viewer
    × FilledBelow question_of (FilledIn l.scheme l.network) nobody l.question-index l.initial.questions l.questions
