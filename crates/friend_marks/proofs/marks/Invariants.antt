-- The set holds the states below q that make friends.
use Rattle.model.specs.SchemeBytes.{scheme_of}
use Rattle.model.proofs.Sets.{Built}
use Rattle.friend_marks.proofs.marks.Given as goal

abbrev pub invariant-loop-q : goal.invariant-loop-q
invariant-loop-q l = Built (scheme_of l.scheme.bytes.now).friendly l.q l.set
