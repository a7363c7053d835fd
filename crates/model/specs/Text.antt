-- What the log program prints, as bytes (docs/reference.md, "The log program").
use Rattle.std.specs.Prelude.{ℕ, zero, suc, ◌+◌, ◌/◌, ◌%◌, ◌≤◌, ◌≡◌, cond, List, [], ◌∷◌, ◌++◌, ◌⊎◌, ltb, length}
use Rattle.model.specs.Answers.{Requirement, Answers}
use Rattle.model.specs.SchemeBytes.{scheme_needs}
use Rattle.model.specs.Requests.{Turn}
use Rattle.model.specs.Calls.{Fresh, Called}
use Rattle.model.specs.Log.{ended, refused, request, NextAt, place_after}

-- a number's digits in base ten, at most so many, with no zeros in front
abbrev pub digits_of : ℕ → ℕ → List ℕ
digits_of zero n = []
digits_of (suc most) n = cond (ltb n 10) [] (digits_of most (n / 10)) ++ (48 + n % 10) ∷ []

-- a number below 100,000: no position, answer or member is greater
unfoldable pub decimal : ℕ → List ℕ
decimal n = digits_of 5 n

-- each number after a space
abbrev pub spaced : List ℕ → List ℕ
spaced [] = []
spaced (x ∷ l) = (32 ∷ decimal x) ++ spaced l

-- position, space, answer; a granted list adds each friend after a space
unfoldable pub line_of : ℕ → ℕ → List ℕ → List ℕ
line_of position answer friends = decimal position ++ spaced (answer ∷ friends) ++ 10 ∷ []

-- where the program stands: before the scheme check; at a place of the log, at a position, with a network; or done
pub data State : Type 0 where
  start : State
  running : (place position : ℕ) (network : List ℕ) → State
  over : State

-- a refused scheme comes before 15, if the log exceeds 16,384 bytes
abbrev pub start_needs : List ℕ → List ℕ → List Requirement
start_needs b log = scheme_needs b ++ (15, length log ≤ 16384) ∷ []

-- a list is lent as many places as there can be members
abbrev pub places : ℕ
places = 256

module _ (b log : List ℕ) where
  -- from one state to the next, and what is printed
  abbrev pub Step : State → List ℕ → State → Type 0
  Step start line start = ⊥
  -- it starts fresh, at position 1
  Step start line (running place position net) = Answers (start_needs b log) 0 × (line ≡ []) × (place ≡ 0) × (position ≡ 1) × Fresh b net
  -- or prints one line, `0`, a space and the number, and nothing else
  Step start line over = (number : ℕ) × Answers (start_needs b log) number × (1 ≤ number) × (line ≡ line_of 0 number [])
  Step (running place position net) line start = ⊥
  -- a record's request is called, on the network that the one before it left
  Step (running place position net) line (running place' position' net') =
      (t : Turn)
      × NextAt log places place (request t.request)
      × Called b net t net'
      × (line ≡ line_of position t.answer t.written)
      × (place' ≡ place_after log place (request t.request))
      × (position' ≡ position + 1)
  -- a 14 has its line too and is the last; or the log has ended
  Step (running place position net) line over =
      (NextAt log places place (refused 14) × (line ≡ line_of position 14 []))
      ⊎ (NextAt log places place ended × (line ≡ []))
  Step over line s = ⊥

  -- so many steps lead from s to u and print the text
  abbrev pub Prints : ℕ → State → List ℕ → State → Type 0
  Prints zero s text u = (text ≡ []) × (s ≡ u)
  Prints (suc k) s text u = (line : List ℕ) × (t : State) × (rest : List ℕ) × Step s line t × (text ≡ line ++ rest) × Prints k t rest u

  -- the text from s on
  abbrev pub TextFrom : State → List ℕ → Type 0
  TextFrom s text = (k : ℕ) × Prints k s text over

-- what the log program prints of a scheme file's and a log file's bytes
abbrev pub Text : List ℕ → List ℕ → List ℕ → Type 0
Text b log text = TextFrom b log start text

-- what was read of a file is the whole file, or exceeds so many bytes
abbrev pub ReadOf : ℕ → List ℕ → List ℕ → Type 0
ReadOf most read rest = (rest ≡ []) ⊎ (suc most ≤ length read)
