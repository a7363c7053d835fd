use Rattle.std.proofs.Common.{rules, arith, ◌∙◌, sym}
use Rattle.sets.proofs.Iterating.{word_left, next_word, no_word, less_left, next_left, fewer_left}
use Rattle.sets.proofs.iteration.MemberIterIterator.next.Goals as goal

pub returns-in_err-self-inside-clause-steps : goal.returns-in_err-self-inside-clause-steps
returns-in_err-self-inside-clause-steps c = rw c.from_residual.ensures (λ m. sym (c.loop-self.invariant.same m) ∙ no_word _ c.loop-self-test.true (search rules) (omega (arith, c.in_err-self-inside.ensures.lookup)) m)

pub loop-self-preserved : goal.loop-self-preserved
loop-self-preserved c =
    let h = c.in_ok-self-inside.ensures.lookup in
    record {
      word = word_left _ _ (omega arith) (omega (arith, h)) (search rules);
      same = λ m. next_word _ c.loop-self-test.true _ _ (search rules) (search rules) m ∙ c.loop-self.invariant.same m;
    }

pub overflow_add-m : goal.overflow_add-m
overflow_add-m c = omega (arith, (next_left _ c.loop-self.invariant.word c.loop-self-test.false (search rules) _ c.loop-self.invariant.same).small)

pub invariant_of-self-2 : goal.invariant_of-self-2
invariant_of-self-2 c = less_left (record { set = c.loop-self.self-inside.set; base = c.loop-self.self-inside.base; word = c.loop-self.self-inside.word }) c.loop-self.invariant.word c.loop-self-test.false (search rules)

pub returns-clause-steps : goal.returns-clause-steps
returns-clause-steps c = next_left _ c.loop-self.invariant.word c.loop-self-test.false (search rules) _ c.loop-self.invariant.same

pub returns-clause-goes : goal.returns-clause-goes
returns-clause-goes c =
    let n = next_left _ c.loop-self.invariant.word c.loop-self-test.false (search rules) _ c.loop-self.invariant.same in
    record { on = λ e. (tt, tt, fewer_left n); keeps = tt; rests = λ e. tt }
