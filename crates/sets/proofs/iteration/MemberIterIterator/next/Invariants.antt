use Rattle.std.proofs.Common.{◌≡◌, ℕ, ◌-◌}
use Rattle.sets.specs.Members.{is_left, WordLeft}
use Rattle.sets.proofs.iteration.MemberIterIterator.next.Given as goal

abbrev pub invariant-loop-self : goal.invariant-loop-self
invariant-loop-self l = record {
  word : WordLeft l.self-inside.base l.self-inside.word;
  same : (m : ℕ) → is_left (record { set = l.self-inside.set; base = l.self-inside.base; word = l.self-inside.word }) m ≡ is_left l.fn.self m;
}

abbrev pub decreases-loop-self : goal.decreases-loop-self
decreases-loop-self l = 256 - l.self-inside.base
