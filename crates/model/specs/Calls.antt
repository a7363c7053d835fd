-- What each call promises of the bytes that it is lent (docs/reference.md, "The calls").
use Rattle.std.specs.Prelude.{ℕ, ◌≤◌, min, max, ◌≡◌, List, [], ◌∷◌, ◌++◌, length, take, drop, set}
use Rattle.model.specs.Answers.{Requirement, Answers}
use Rattle.model.specs.Graph.{Degree, friendships, none, IsDegree}
use Rattle.model.specs.Scheme.{Scheme}
use Rattle.model.specs.SchemeBytes.{scheme_of, scheme_needs, Accepted}
use Rattle.model.specs.Network.{fresh, pair_place, setting_place, size, Laid, held, world, Valid}
use Rattle.model.specs.Requests.{Request, event, set_policy, find, list, view, next, needs, writes, Turn, granted}
use Rattle.model.specs.Suggestions.{Suggestions, suggest_needs}

-- the bytes are a fresh network under scheme b
abbrev pub Fresh : List ℕ → List ℕ → Type 0
Fresh b net = Laid (scheme_of b) (fresh (scheme_of b)) net

-- fresh: 5 if the lent network has not the exact length
abbrev pub fresh_needs : List ℕ → List ℕ → List Requirement
fresh_needs b net = scheme_needs b ++ (5, length net ≡ size (scheme_of b)) ∷ []

-- the call fresh on scheme b and the lent bytes: its answer, and the bytes after it
pub record Freshened (b net : List ℕ) (answer : ℕ) (after : List ℕ) : Type 0 where
  pub answered : Answers (fresh_needs b net) answer
  pub made : answer ≡ 0 → Fresh b after
  pub kept : (answer ≡ 0 → ⊥) → after ≡ net

-- the scheme check, and 5 if length or any byte of the network is off
abbrev pub open_needs : List ℕ → List ℕ → List Requirement
open_needs b net = scheme_needs b ++ (5, Valid (scheme_of b) net) ∷ []

-- what a granted request does to the bytes
abbrev pub puts : Scheme → List ℕ → Request → List ℕ
puts c net (event v u a) = set net (pair_place (min v u) (max v u)) (next c (held c net) v u a)
puts c net (set_policy u r p) = set net (setting_place c u r) p
puts c net (find v u) = net
puts c net (list v u places) = net
puts c net (view v u o) = net

-- every request begins with the scheme check; 5 if length or any byte of the network is off
abbrev pub call_needs : List ℕ → List ℕ → Request → List Requirement
call_needs b net q = scheme_needs b ++ (5, Valid (scheme_of b) net) ∷ needs (scheme_of b) (held (scheme_of b) net) q

-- one request on scheme b: its answer, the list written, and the bytes after it
pub record Called (b net : List ℕ) (t : Turn) (after : List ℕ) : Type 0 where
  pub answered : Answers (call_needs b net t.request) t.answer
  pub wrote : t.written ≡ granted t.answer (writes (scheme_of b) (held (scheme_of b) net) t.request) []
  pub bytes : after ≡ granted t.answer (puts (scheme_of b) net t.request) net

-- only so many places at the front of the output were written
pub record FrontOnly (count : ℕ) (out after : List ℕ) : Type 0 where
  pub within : count ≤ length after
  pub behind : drop count after ≡ drop count out

-- what a call leaves: its answer, the list that it wrote at the front of the output, as long as counted, and the network
pub record Left (b net : List ℕ) (q : Request) (out : List ℕ) (answer count : ℕ) (out' net' : List ℕ) : Type 0 where
  pub called : Called b net (record { request = q; answer = answer; written = take count out' }) net'
  pub front : FrontOnly count out out'

-- what a list's call leaves where its count goes through a lent place, which a refusal leaves alone
pub record ListAnswered (b net : List ℕ) (v u : ℕ) (out : List ℕ) (count : ℕ) (answer : ℕ) (after : List ℕ) (count' : ℕ) : Type 0 where
  pub left : Left b net (list v u (length out)) out answer (granted answer count' 0) after net
  pub kept : (answer ≡ 0 → ⊥) → count' ≡ count

-- a degree in a lent place: the number of friendships, 65535 for none
abbrev pub degree_number : Degree → ℕ
degree_number (friendships d) = d
degree_number none = 65535

-- what the call degree leaves: find's requirements in find's order; a grant writes the degree, and a refusal leaves the place alone
pub record DegreeAnswered (b net : List ℕ) (v u : ℕ) (degree answer degree' : ℕ) : Type 0 where
  pub answered : Answers (call_needs b net (find v u)) answer
  pub told : answer ≡ 0 → (d : Degree) × IsDegree (world (scheme_of b) (held (scheme_of b) net)).graph u v d × (degree' ≡ degree_number d)
  pub kept : (answer ≡ 0 → ⊥) → degree' ≡ degree

-- suggest begins as every request does
abbrev pub suggest_call_needs : List ℕ → List ℕ → ℕ → ℕ → ℕ → List Requirement
suggest_call_needs b net v c places =
    scheme_needs b ++ (5, Valid (scheme_of b) net) ∷ suggest_needs (world (scheme_of b) (held (scheme_of b) net)) v c places

-- what the call suggest leaves: its answer, and the page that it wrote at the front of the output, as long as counted
pub record SuggestLeft (b net : List ℕ) (v c : ℕ) (out : List ℕ) (answer count : ℕ) (after : List ℕ) : Type 0 where
  pub answered : Answers (suggest_call_needs b net v c (length out)) answer
  pub wrote : answer ≡ 0 → Suggestions (world (scheme_of b) (held (scheme_of b) net)) v c (take count after)
  pub nothing : (answer ≡ 0 → ⊥) → count ≡ 0
  pub front : FrontOnly count out after

-- where its count goes through a lent place, which a refusal leaves alone
pub record SuggestAnswered (b net : List ℕ) (v c : ℕ) (out : List ℕ) (count answer : ℕ) (after : List ℕ) (counted : ℕ) : Type 0 where
  pub left : SuggestLeft b net v c out answer (granted answer counted 0) after
  pub kept : (answer ≡ 0 → ⊥) → counted ≡ count

-- the length of a network under an accepted scheme; 0 under any other
pub record LengthOf (b : List ℕ) (r : ℕ) : Type 0 where
  pub accepted : Accepted b → r ≡ size (scheme_of b)
  pub refused : (Accepted b → ⊥) → r ≡ 0
