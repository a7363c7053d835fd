-- Where the log program stands, and its steps (document 01, "Log program").
use Rattle.std.specs.Prelude.{ℕ, ◌≤◌, ◌<◌, ◌≡◌, List, take}
use Rattle.model.specs.Calls.{FrontOnly}
use Rattle.model.specs.Text.{State, start, running, over, Step}
use Rattle.lines.specs.Put.{Put}
use Rattle.lines.specs.declared.Text.{Text}
use Rattle.fresh_start.specs.declared.Stand.{Stand}
use Rattle.fresh_start.specs.declared.Stand.TheVariants.{Start as AtStart, At, Over}

-- document 01's state, where the lent bytes begin with the network
abbrev pub state_of : Stand → List ℕ → State
state_of AtStart net = start
state_of (At place position count) net = running place position (take count net)
state_of Over net = over

-- the lent bytes, so many, have room for the network
abbrev pub Sized : Stand → ℕ → Type 0
Sized AtStart lent = 39296 ≤ lent
Sized (At place position count) lent = count ≤ lent
Sized Over lent = Unit {0}

-- there is a next step, and room for it
abbrev pub Ready : Stand → ℕ → Type 0
Ready AtStart lent = 39296 ≤ lent
Ready (At place position count) lent = (position < 65535) × (count ≤ lent)
Ready Over lent = ⊥

-- of the lent bytes only the network was written, and at the end nothing
abbrev pub OnlyNetwork : Stand → List ℕ → List ℕ → Type 0
OnlyNetwork AtStart net net' = net' ≡ net
OnlyNetwork (At place position count) net net' = FrontOnly count net net'
OnlyNetwork Over net net' = net' ≡ net

-- where the program stands, the bytes lent for the network and for the text, and how many of these are used
pub record Moment : Type 0 where
  pub stand : Stand
  pub network : List ℕ
  pub buffer : List ℕ
  pub used : ℕ

abbrev pub moment : Stand → List ℕ → Text → Moment
moment stand net text = record { stand = stand; network = net; buffer = text.buffer.now; used = text.used }

-- one step was made, and its line put behind what was used of the buffer
pub record Stepped (b log : List ℕ) (from to : Moment) : Type 0 where
  pub line : List ℕ
  pub steps : Step b log (state_of from.stand from.network) line (state_of to.stand to.network)
  pub put : Put from.buffer from.used line to.used to.buffer
  pub only : OnlyNetwork to.stand from.network to.network
