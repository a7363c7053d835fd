-- Text that is put at a place of a lent buffer.
use Rattle.std.specs.Prelude.{ℕ, ◌+◌, ◌*◌, ◌≤◌, ◌≡◌, List, ◌++◌, length, take, drop}
use Rattle.lines.specs.declared.Text.{Text}

-- room for every line with so many friends, each number below 65,536
abbrev pub longest : ℕ → ℕ
longest count = 12 + 6 * count

-- the text stands from a place on and ends before the place r; what is before and behind it is as it was
pub record Put (old : List ℕ) (at : ℕ) (text : List ℕ) (r : ℕ) (after : List ℕ) : Type 0 where
  pub long : length after ≡ length old
  pub size : r ≡ at + length text
  pub fits : r ≤ length old
  pub front : take r after ≡ take at old ++ text
  pub behind : drop r after ≡ drop r old

-- the text is put behind what was used, in the same buffer
pub record Puts (old : Text) (text : List ℕ) (new : Text) : Type 0 where
  pub put : Put old.buffer.now old.used text new.used new.buffer.now
  pub same_reference : new.buffer.ghost_name ≡ old.buffer.ghost_name
