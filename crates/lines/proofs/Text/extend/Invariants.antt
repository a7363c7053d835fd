use Rattle.std.proofs.Common.{◌≡◌, ◌+◌, ◌≤◌, length, take}
use Rattle.lines.specs.Put.{Puts}
use Rattle.lines.proofs.Text.extend.Given as goal

abbrev pub invariant-loop-byte : goal.invariant-loop-byte
invariant-loop-byte l = record {
  puts : Puts l.initial.self (take l.byte-index l.bytes) l.self;
  end : l.self.used ≡ l.initial.self.used + l.byte-index;
  room : l.initial.self.used + length l.bytes ≤ length l.self.buffer.now;
}
