-- Buffers filled with the log program's text, and what is written of them.
use Rattle.std.specs.Prelude.{ℕ, zero, suc, ◌+◌, ◌≤◌, ◌≡◌, List, [], ◌++◌, length, take, Option, Result, Ok, Err}
use Rattle.std.specs.Io.KnownBytes.{Appends}
use Rattle.files.specs.Transfers.{Given}
use Rattle.model.specs.SchemeBytes.{longest_scheme}
use Rattle.model.specs.Text.{State, start, Prints, TextFrom, Text, ReadOf}
use Rattle.fresh_start.specs.Stands.{state_of, Ready, Moment, Stepped}
use Rattle.fresh_start.specs.declared.Stand.{Stand}
use Rattle.fresh_start.specs.declared.Stand.TheVariants.{Start, At, Over}
use Rattle.replay.specs.declared.Cut.{Cut}

abbrev pub IsOver : Stand → Type 0
IsOver Start = ⊥
IsOver (At place position count) = ⊥
IsOver Over = Unit {0}

-- there is a next step, and room for a longest line
abbrev pub Goes : Moment → Type 0
Goes m = Ready m.stand (length m.network) × (m.used + 1548 ≤ length m.buffer)

module _ (b log : List ℕ) where
  -- so many steps, each where the program goes on
  abbrev pub Steps : ℕ → Moment → Moment → Type 0
  Steps zero m n = m ≡ n
  Steps (suc k) m n = (at : Moment) × Steps k m at × Goes at × Stepped b log at n

  -- behind what was used of the buffer, as many steps as there are and surely fit
  pub record Fills (from to : Moment) : Type 0 where
    pub count : ℕ
    pub steps : Steps count from to
    pub stops : Goes to → ⊥

-- what was used, and the text from where it stood, are what is used and the text from where it stands; at the start that is the whole
-- text, at the end nothing
abbrev pub Continued : Type 0
Continued =
    (b log : List ℕ) (from to : Moment) (text rest : List ℕ) → Fills b log from to
    → TextFrom b log (state_of from.stand from.network) text
    → TextFrom b log (state_of to.stand to.network) rest
    → (take from.used from.buffer ++ text ≡ take to.used to.buffer ++ rest) × (to.stand ≡ Over → rest ≡ [])

-- a write hands over all of its bytes, or fails and adds none
abbrev pub Adds : ℕ → ℕ → Result ℕ Cut → Type 0
Adds before count (Ok written) = written ≡ before + count
Adds before count (Err cut) = cut.written ≡ before

-- the text of files of any length, of which this was read
abbrev pub TextRead : List ℕ → List ℕ → List ℕ → Type 0
TextRead b log text = (more rest : List ℕ) → ReadOf longest_scheme b more → ReadOf 16384 log rest → Text (b ++ more) (log ++ rest) text

-- so many bytes were handed over to be written as the text has, of files of any length: where what was read is longer than every accepted
-- scheme or log, it has the whole file's text; or, where a write failed, the bytes handed over before it are the text's first lines
abbrev pub Printed : List ℕ → List ℕ → Result ℕ Cut → Type 0
Printed b log (Ok written) =
    (text : List ℕ)
    × (written ≡ length text)
    × TextRead b log text
Printed b log (Err cut) = (text : List ℕ) × (cut.written ≡ length text) × (count : ℕ) × (reached : State) × Prints b log count start text reached

-- where the writer can tell what it was given: a write gave it all of the bytes, or failed and gave it a front of them
abbrev pub Gives : Option (List ℕ) → Option (List ℕ) → List ℕ → Result ℕ Cut → Type 0
Gives before after bytes (Ok written) = Appends before after bytes
Gives before after bytes (Err cut) = Given before after bytes

-- where the writer can tell what it was given, that is the text, which has so many bytes; or, where a write failed, the text's first
-- lines, which have so many bytes, and a front of the lines behind them
abbrev pub Handed : Option (List ℕ) → Option (List ℕ) → List ℕ → List ℕ → Result ℕ Cut → Type 0
Handed before after b log (Ok written) =
    (text : List ℕ)
    × Appends before after text
    × (written ≡ length text)
    × TextRead b log text
Handed before after b log (Err cut) =
    (text : List ℕ)
    × (cut.written ≡ length text)
    × (count : ℕ)
    × (reached : State)
    × Prints b log count start text reached
    × (lines : List ℕ)
    × (further : ℕ)
    × (next : State)
    × Prints b log further reached lines next
    × (part : ℕ)
    × Appends before after (text ++ take part lines)
