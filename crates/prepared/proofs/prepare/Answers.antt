use Rattle.std.proofs.Common.{arith, rules, ◌∙◌}
use Rattle.model.specs.SchemeBytes.{P}
use Rattle.model.proofs.Deciding.{says, is_so, is_not, said_yes, said_no}
use Rattle.network.proofs.Reading.{ready_range}
use Rattle.sets.proofs.Rows.{row_put}
use Rattle.prepared.specs.Reading.{SomeOfKind}
use Rattle.prepared.proofs.Preparing.{near}
use Rattle.prepared.proofs.Reaching.{some_more}
use Rattle.prepared.proofs.prepare.Goals as goal

pub returns-then-some-clause-prepared : goal.returns-then-some-clause-prepared
returns-then-some-clause-prepared c =
    let e = c.args.world.now.ready.counts.members in
    let d = c.args.world.now.ready.counts.policies in
    record {
      distances_long = c.measure.array_long.0;
      rows_long = c.fill_rows.array_long.1;
      near = near c.measure.ensures;
      own_row = λ s. c.fill_rows.ensures.each _ (omega arith);
      all_rows = λ s. c.fill_rows.ensures.each;
      person_row = λ s. c.write_persons.ensures.read (is_so (says c.kinds_of-some.ensures.known) (some_more 4 _ 0 _ _ (omega arith) s));
    }

pub returns-then-some-clause-written : goal.returns-then-some-clause-written
returns-then-some-clause-written c =
    let e = c.args.world.now.ready.counts.policies in
    let clique : SomeOfKind 5 c.args.world.now.scheme.bytes.now 0 (P c.args.world.now.scheme.bytes.now) = some_more 5 _ 0 _ _ (omega arith) (said_yes c.if-some.true c.kinds_of-some.ensures.clique) in
    record {
      limit = c.measure.ensures.limit;
      farthest = c.measure.ensures.farthest;
      distances_read = c.measure.ensures.read;
      distances_unread = c.measure.ensures.unread;
      rows_all = λ s. c.fill_rows.ensures;
      row_own = λ n. absurd (n clique);
      rows_unread = λ n. absurd (n clique);
      persons_read = λ s. c.write_persons.ensures.read (is_so (says c.kinds_of-some.ensures.known) (some_more 4 _ 0 _ _ (omega arith) s));
      persons_unread = λ n. c.write_persons.ensures.unread (is_not (says c.kinds_of-some.ensures.known) (λ s. n (some_more 4 _ 0 _ _ (omega arith) s)));
    }

pub returns-then-some-2-clause-prepared : goal.returns-then-some-2-clause-prepared
returns-then-some-2-clause-prepared c =
    let e = c.args.world.now.ready.counts.policies in
    let m = c.args.world.now.ready.counts.members in
    let p = row_put c.args.places.now.rows c.args.v c.friend_row.result (omega (arith, ready_range c.args.world.now.ready)) in
    record {
      distances_long = c.measure.array_long.0;
      rows_long = p.long ∙ (omega arith);
      near = near c.measure.ensures;
      own_row = λ s. rw p.here c.friend_row.ensures;
      person_row = λ s. c.write_persons.ensures.read c.if-some-2.true;
      all_rows = λ s. absurd (said_no c.if-some.false c.kinds_of-some.ensures.clique (some_more 5 _ 0 _ _ (omega arith) s));
    }

pub returns-then-some-2-clause-written : goal.returns-then-some-2-clause-written
returns-then-some-2-clause-written c =
    let m = c.args.world.now.ready.counts.members in
    let p = row_put c.args.places.now.rows c.args.v c.friend_row.result (omega (arith, ready_range c.args.world.now.ready)) in
    record {
      limit = c.measure.ensures.limit;
      farthest = c.measure.ensures.farthest;
      distances_read = c.measure.ensures.read;
      distances_unread = c.measure.ensures.unread;
      rows_all = search rules;
      row_own = λ a s. rw p.here p;
      rows_unread = search rules;
      persons_read = λ s. c.write_persons.ensures.read c.if-some-2.true;
      persons_unread = λ n. search rules;
    }

pub returns-else-some-2-clause-prepared : goal.returns-else-some-2-clause-prepared
returns-else-some-2-clause-prepared c =
    let e = c.args.world.now.ready.counts.policies in
    record {
      distances_long = c.measure.array_long.0;
      rows_long = omega arith;
      near = near c.measure.ensures;
      own_row = λ s. absurd (said_no c.if-some-2.false c.kinds_of-some.ensures.known (some_more 4 _ 0 _ _ (omega arith) s));
      person_row = λ s. absurd (said_no c.if-some-2.false c.kinds_of-some.ensures.known (some_more 4 _ 0 _ _ (omega arith) s));
      all_rows = λ s. absurd (said_no c.if-some.false c.kinds_of-some.ensures.clique (some_more 5 _ 0 _ _ (omega arith) s));
    }
