use Rattle.std.proofs.Common.{◌+◌, ◌*◌, ◌≤◌, length, take}
use Rattle.model.specs.Text.{spaced}
use Rattle.lines.specs.Put.{Puts}
use Rattle.lines.proofs.Text.list.Given as goal

abbrev pub invariant-loop-number : goal.invariant-loop-number
invariant-loop-number l = record {
  puts : Puts l.initial.self (spaced (take l.number-index l.numbers)) l.self;
  end : l.self.used ≤ l.initial.self.used + 6 * l.number-index;
  room : l.initial.self.used + 6 * length l.numbers ≤ length l.self.buffer.now;
}
