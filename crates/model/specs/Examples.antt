-- Small examples of the policies and of the requests (docs/reference.md, "Worked examples").
use Rattle.std.specs.Prelude.{ℕ, ◌≡◌, Bool, true, false, ◌&&◌, ◌||◌, not, cond, List, [], ◌∷◌, ◌++◌, map, drop, eqb}
use Rattle.model.specs.Answers.{Answers}
use Rattle.model.specs.Bytes.{bit}
use Rattle.model.specs.Graph.{Graph, Degree, friendships, none, IsDegree}
use Rattle.model.specs.Policies.{Policy, known, clique, within, state, both, either, owner_only, no_one, everyone, any_side, owner_lesser, owner_greater, Admits}
use Rattle.model.specs.SchemeBytes.{scheme_of, scheme_needs}
use Rattle.model.specs.Finding.{World}
use Rattle.model.specs.Network.{Maps, Laid, marked_graph, world}
use Rattle.model.specs.Requests.{Request, event, set_policy, find, list, view, needs, writes, does, granted}
use Rattle.model.specs.Suggestions.{Suggestions, suggest_needs}
use Rattle.model.specs.Log.{Outcome, ended, refused, request, NextAt, place_after}
use Rattle.model.specs.Calls.{Fresh, puts}
use Rattle.model.specs.Questions.{Question, ViewsLeft}
use Rattle.model.specs.Standard.{standard, standard_bytes}

-- 0, 1, 2 are friends of each other; 3 is a friend of 1 and 2; 4 is a friend of 3; 0, 3 and 4 are in group 5
abbrev pub joins : ℕ → ℕ → Bool
joins u v =
    friendship 0 1 || friendship 0 2 || friendship 1 2 || friendship 1 3 || friendship 2 3 || friendship 3 4
    || friendship 0 5 || friendship 3 5 || friendship 4 5
  where
    friendship : ℕ → ℕ → Bool
    friendship a b = (eqb u a && eqb v b) || (eqb u b && eqb v a)

-- friends are in state 3, all others in state 1
abbrev pub small : Graph
small = marked_graph 6 joins (λ set u v. bit set (cond (joins u v) 3 1)) (λ m. eqb m 5)

-- a policy, owner, accessor, and whether it admits
abbrev pub Admission : Type 0
Admission = Policy × ℕ × ℕ × Bool

abbrev pub AllAdmissions : List Admission → Type 0
AllAdmissions [] = Unit {0}
AllAdmissions ((p, u, v, true) ∷ rows) = Admits small p u v × AllAdmissions rows
AllAdmissions ((p, u, v, false) ∷ rows) = (Admits small p u v → ⊥) × AllAdmissions rows

abbrev pub admissions : List Admission
admissions =
    (no_one, 2, 2, false)
    ∷ (everyone, 0, 4, true)
    ∷ (owner_only, 2, 2, true)
    ∷ (owner_only, 2, 1, false)
    ∷ (known 2, 0, 3, true)
    ∷ (known 3, 0, 3, false)
    ∷ (known 9, 0, 1, true)
    ∷ (known 9, 4, 4, true)
    -- 0 and 4 share the group alone; a group is known to its friends, and by the persons that it shares with others
    ∷ (known 1, 0, 4, false)
    ∷ (known 9, 0, 5, true)
    ∷ (known 2, 5, 1, true)
    ∷ (known 3, 5, 1, false)
    ∷ (clique 3, 0, 1, true)
    ∷ (clique 3, 1, 3, true)
    ∷ (clique 3, 0, 3, false)
    ∷ (clique 4, 1, 2, false)
    ∷ (clique 2, 3, 4, true)
    -- with the group
    ∷ (clique 3, 3, 4, true)
    ∷ (clique 3, 0, 5, false)
    ∷ (clique 5, 4, 4, true)
    ∷ (within 2, 0, 3, true)
    ∷ (within 1, 0, 4, false)
    -- through the group, and to it
    ∷ (within 2, 0, 4, true)
    ∷ (within 2, 1, 5, true)
    ∷ (within 1, 4, 4, true)
    ∷ (state 8 any_side, 1, 0, true)
    ∷ (state 8 any_side, 0, 4, false)
    ∷ (state 8 owner_lesser, 0, 1, true)
    ∷ (state 8 owner_lesser, 1, 0, false)
    ∷ (state 8 owner_greater, 1, 0, true)
    ∷ (state 8 owner_greater, 0, 1, false)
    ∷ (both (known 2) owner_only, 0, 3, false)
    ∷ (both (known 2) (within 2), 0, 3, true)
    ∷ (either no_one (known 2), 0, 3, true)
    ∷ (either no_one owner_only, 0, 3, false)
    ∷ []

-- a record of a kind and of a length below 256, and a body
abbrev pub sixth : ℕ → ℕ → List ℕ → List ℕ
sixth kind size body = size ∷ 0 ∷ kind ∷ 0 ∷ body

-- the standard scheme for four members is answered so, with these bytes behind it
abbrev pub Behind : List ℕ → ℕ → Type 0
Behind more = Answers (scheme_needs (standard_bytes 4 ++ more))

-- what may stand behind the fifth record: nothing, or one record of kind 6, whose bytes are 0 and 1
pub record SixthRecord : Type 0 where
  pub none : Behind [] 0
  pub accepted : Behind (sixth 6 4 (0 ∷ 1 ∷ 0 ∷ 0 ∷ [])) 0
  pub read : (m : ℕ) → (scheme_of (standard_bytes 4 ++ sixth 6 4 (0 ∷ 1 ∷ 0 ∷ 0 ∷ []))).group m ≡ eqb m 1
  pub wrong_byte : Behind (sixth 6 4 (0 ∷ 2 ∷ 0 ∷ 0 ∷ [])) 3
  pub last_byte : Behind (sixth 6 4 (0 ∷ 1 ∷ 0 ∷ 2 ∷ [])) 3
  pub other_kind : Behind (sixth 7 4 (0 ∷ 1 ∷ 0 ∷ 0 ∷ [])) 1
  pub short : Behind (sixth 6 3 (0 ∷ 1 ∷ 0 ∷ [])) 1
  pub long : Behind (sixth 6 5 (0 ∷ 1 ∷ 0 ∷ 0 ∷ 0 ∷ [])) 1
  pub cut : Behind (sixth 6 4 (0 ∷ 1 ∷ 0 ∷ [])) 1
  pub cut_head : Behind (4 ∷ 0 ∷ 6 ∷ []) 1
  pub followed : Behind (sixth 6 4 (0 ∷ 1 ∷ 0 ∷ 0 ∷ 0 ∷ [])) 1
  pub twice : Behind (sixth 6 4 (0 ∷ 1 ∷ 0 ∷ 0 ∷ []) ++ sixth 6 4 (0 ∷ 1 ∷ 0 ∷ 0 ∷ [])) 1

-- a network of four under the standard scheme: 0 and 1 are friends, 1 and 2 are friends, 3 is a stranger to all;
-- 1 lets everyone traverse, 3's search admits everyone, 2 shows its recipe to friends of friends
abbrev pub four : Maps
four = record {
  pair = λ i j. cond ((eqb i 0 && eqb j 1) || (eqb i 1 && eqb j 2)) 3 0;
  setting = λ m r. cond (eqb m 1 && eqb r 1) 4
      (cond (eqb m 3 && eqb r 0) 12
      (cond (eqb m 2 && eqb r 7) 3
      (cond (eqb r 0 || eqb r 6) 8 (cond (eqb r 3 || (eqb r 4 || eqb r 5)) 4 0))));
}

-- a request, its answer, and the list written
abbrev pub Judgement : Type 0
Judgement = Request × ℕ × List ℕ

abbrev pub AllJudged : List Judgement → Type 0
AllJudged [] = Unit {0}
AllJudged ((q, answer, written) ∷ rows) =
    Answers (needs (standard 4) four q) answer × (written ≡ granted answer (writes (standard 4) four q) []) × AllJudged rows

abbrev pub judgements : List Judgement
judgements =
    -- a chain over 1, whose traversal admits 0; the last member is not asked for its own
    (find 0 2, 0, [])
    ∷ (find 2 0, 0, [])
    -- a friend is found whatever its search says
    ∷ (find 0 1, 0, [])
    -- search
    ∷ (find 0 3, 0, [])
    ∷ (find 3 0, 9, [])
    -- oneself
    ∷ (find 3 3, 0, [])
    ∷ (find 4 0, 6, [])
    ∷ (find 0 4, 6, [])
    -- 13 before 9; the count and the order
    ∷ (list 0 1 4, 0, 0 ∷ 2 ∷ [])
    ∷ (list 0 1 3, 13, [])
    ∷ (list 3 0 3, 13, [])
    ∷ (list 3 0 4, 9, [])
    ∷ (list 1 0 4, 11, [])
    ∷ (list 0 4 0, 6, [])
    -- 7 before 9 before 11
    ∷ (view 0 2 1, 0, [])
    ∷ (view 0 2 2, 11, [])
    ∷ (view 3 2 2, 9, [])
    ∷ (view 3 2 3, 7, [])
    ∷ (view 3 4 3, 6, [])
    -- 7, 8, 9, 10, 11
    ∷ (event 4 0 4, 6, [])
    ∷ (event 0 0 4, 7, [])
    ∷ (event 0 0 3, 8, [])
    ∷ (event 3 0 0, 9, [])
    ∷ (event 0 1 0, 10, [])
    ∷ (event 0 2 0, 11, [])
    ∷ (event 0 1 3, 0, [])
    -- 12
    ∷ (set_policy 4 9 13, 6, [])
    ∷ (set_policy 3 9 13, 7, [])
    ∷ (set_policy 3 0 13, 12, [])
    ∷ (set_policy 3 0 7, 12, [])
    ∷ (set_policy 3 0 12, 0, [])
    ∷ []

-- the four as bytes
abbrev pub four_bytes : List ℕ
four_bytes =
    3 ∷ 0 ∷ 3 ∷ 0 ∷ 0 ∷ 0
    ∷ 8 ∷ 0 ∷ 0 ∷ 4 ∷ 4 ∷ 4 ∷ 8 ∷ 0 ∷ 0
    ∷ 8 ∷ 4 ∷ 0 ∷ 4 ∷ 4 ∷ 4 ∷ 8 ∷ 0 ∷ 0
    ∷ 8 ∷ 0 ∷ 0 ∷ 4 ∷ 4 ∷ 4 ∷ 8 ∷ 3 ∷ 0
    ∷ 12 ∷ 0 ∷ 0 ∷ 4 ∷ 4 ∷ 4 ∷ 8 ∷ 0 ∷ 0
    ∷ []

-- viewer, owner and item of a question, what the place for its answer held, and the answer
abbrev pub Asking : Type 0
Asking = ℕ × ℕ × ℕ × ℕ × ℕ

abbrev pub before : Asking → Question
before (v, u, o, held, answer) = record { viewer = v; owner = u; item = o; answer = held }

abbrev pub after : Asking → Question
after (v, u, o, held, answer) = record { viewer = v; owner = u; item = o; answer = answer }

abbrev pub askings : List Asking
askings =
    (0, 2, 1, 9, 0)
    ∷ (0, 2, 2, 0, 11)
    -- the viewer changes and returns, and views the other way
    ∷ (3, 2, 2, 11, 9)
    ∷ (0, 2, 1, 9, 0)
    ∷ (2, 0, 1, 0, 11)
    -- 7 and 6 are of single questions
    ∷ (2, 0, 3, 0, 7)
    ∷ (3, 2, 3, 0, 7)
    ∷ (4, 0, 3, 0, 6)
    ∷ (2, 4, 3, 6, 6)
    ∷ (2, 2, 0, 255, 11)
    ∷ (3, 3, 1, 0, 11)
    ∷ []

-- what views leaves of them; of no question; and of a network of a byte more, of one with a byte off, and of a scheme of no bytes
pub record Viewings : Type 0 where
  pub laid : Laid (standard 4) four four_bytes
  pub filled_in : ViewsLeft (standard_bytes 4) four_bytes (map before askings) 0 (map after askings)
  pub empty : ViewsLeft (standard_bytes 4) four_bytes [] 0 []
  pub long_network : ViewsLeft (standard_bytes 4) (four_bytes ++ 0 ∷ []) (map before askings) 5 (map before askings)
  pub byte_off : ViewsLeft (standard_bytes 4) (4 ∷ drop 1 four_bytes) (map before askings) 5 (map before askings)
  pub no_scheme : ViewsLeft [] four_bytes (map before askings) 1 (map before askings)

-- two members of the four, and their degree: 0 finds 3 by search, and no friendship joins them
abbrev pub degrees : List (ℕ × ℕ × Degree)
degrees = (0, 0, friendships 0) ∷ (1, 0, friendships 1) ∷ (2, 0, friendships 2) ∷ (3, 0, none) ∷ []

abbrev pub AllDegrees : List (ℕ × ℕ × Degree) → Type 0
AllDegrees [] = Unit {0}
AllDegrees ((u, v, d) ∷ rows) = IsDegree (world (standard 4) four).graph u v d × AllDegrees rows

-- 0 is a friend of 1 and 2, as are 4, 5 and 7; 1 and 2 are friends; 3 is a friend of 1 and 6
abbrev pub acquainted : ℕ → ℕ → Bool
acquainted u v =
    joined 0 1 || joined 0 2 || joined 1 2 || joined 1 3 || joined 1 4 || joined 2 4 || joined 1 5 || joined 2 5 || joined 3 6 || joined 1 7 || joined 2 7
  where
    joined : ℕ → ℕ → Bool
    joined a b = (eqb u a && eqb v b) || (eqb u b && eqb v a)

-- everyone's search admits everyone, but for 7's; nobody may be traversed; one is a group, or none of the eight
abbrev pub eight : ℕ → World
eight group = record { graph = marked_graph 8 acquainted (λ set u v. false) (λ m. eqb m group); setting = λ m r. cond (eqb r 0 && not (eqb m 7)) everyone no_one }

-- who is a group, who asks, for how many, with so many places; the answer, and the page written
abbrev pub Suggesting : Type 0
Suggesting = ℕ × ℕ × ℕ × ℕ × ℕ × List ℕ

abbrev pub AllSuggested : List Suggesting → Type 0
AllSuggested [] = Unit {0}
AllSuggested ((group, v, c, places, answer, page) ∷ rows) =
    Answers (suggest_needs (eight group) v c places) answer × granted answer (Suggestions (eight group) v c page) (page ≡ []) × AllSuggested rows

abbrev pub suggestings : List Suggesting
suggestings =
    -- 4 and 5 share two friends with 0, and 3 shares one; 1 and 2 are its friends, 6 shares none, 7 is not found
    (8, 0, 4, 9, 0, 4 ∷ 5 ∷ 3 ∷ [])
    ∷ (8, 0, 3, 3, 0, 4 ∷ 5 ∷ 3 ∷ [])
    ∷ (8, 0, 2, 2, 0, 4 ∷ 5 ∷ [])
    ∷ (8, 0, 1, 1, 0, 4 ∷ [])
    ∷ (8, 0, 0, 0, 0, [])
    -- 7 finds the others
    ∷ (8, 7, 8, 8, 0, 0 ∷ 4 ∷ 5 ∷ 3 ∷ [])
    -- 6 before 13, and 13 by the wanted number
    ∷ (8, 0, 4, 3, 13, [])
    ∷ (8, 8, 4, 3, 6, [])
    ∷ (8, 8, 0, 0, 6, [])
    -- without group 1, 3 shares nobody with 0; without group 2 all three share one
    ∷ (1, 0, 4, 9, 0, 4 ∷ 5 ∷ [])
    ∷ (2, 0, 4, 9, 0, 3 ∷ 4 ∷ 5 ∷ [])
    -- a group is suggested, and asks
    ∷ (4, 0, 4, 9, 0, 4 ∷ 5 ∷ 3 ∷ [])
    ∷ (0, 0, 4, 9, 0, 4 ∷ 5 ∷ 3 ∷ [])
    ∷ []

-- what granted requests do to these maps: one pair moves by the side that acts, one setting changes, all else stays
pub record Effects : Type 0 where
  pub invited_by_lesser : (does (standard 4) four (event 0 3 0)).pair 0 3 ≡ 2
  pub invited_by_greater : (does (standard 4) four (event 3 0 0)).pair 0 3 ≡ 1
  pub other_pair : (does (standard 4) four (event 3 0 0)).pair 0 1 ≡ 3
  pub settings_stay : (does (standard 4) four (event 3 0 0)).setting ≡ four.setting
  pub chosen : (does (standard 4) four (set_policy 2 7 4)).setting 2 7 ≡ 4
  pub other_setting : (does (standard 4) four (set_policy 2 7 4)).setting 2 6 ≡ 8
  pub other_member : (does (standard 4) four (set_policy 2 7 4)).setting 1 7 ≡ 0
  pub pairs_stay : (does (standard 4) four (set_policy 2 7 4)).pair ≡ four.pair

-- the fresh network of four members under the standard scheme: 42 bytes
abbrev pub fresh_bytes : List ℕ
fresh_bytes =
    0 ∷ 0 ∷ 0 ∷ 0 ∷ 0 ∷ 0
    ∷ 8 ∷ 0 ∷ 0 ∷ 4 ∷ 4 ∷ 4 ∷ 8 ∷ 0 ∷ 0
    ∷ 8 ∷ 0 ∷ 0 ∷ 4 ∷ 4 ∷ 4 ∷ 8 ∷ 0 ∷ 0
    ∷ 8 ∷ 0 ∷ 0 ∷ 4 ∷ 4 ∷ 4 ∷ 8 ∷ 0 ∷ 0
    ∷ 8 ∷ 0 ∷ 0 ∷ 4 ∷ 4 ∷ 4 ∷ 8 ∷ 0 ∷ 0
    ∷ []

-- after 1 invites 3 and 2 chooses policy 4 for its recipe, the bytes of the pair 1, 3 and of member 2's resource 7 differ
abbrev pub changed_bytes : List ℕ
changed_bytes =
    0 ∷ 0 ∷ 0 ∷ 0 ∷ 2 ∷ 0
    ∷ 8 ∷ 0 ∷ 0 ∷ 4 ∷ 4 ∷ 4 ∷ 8 ∷ 0 ∷ 0
    ∷ 8 ∷ 0 ∷ 0 ∷ 4 ∷ 4 ∷ 4 ∷ 8 ∷ 0 ∷ 0
    ∷ 8 ∷ 0 ∷ 0 ∷ 4 ∷ 4 ∷ 4 ∷ 8 ∷ 4 ∷ 0
    ∷ 8 ∷ 0 ∷ 0 ∷ 4 ∷ 4 ∷ 4 ∷ 8 ∷ 0 ∷ 0
    ∷ []

pub record Layout : Type 0 where
  pub fresh : Fresh (standard_bytes 4) fresh_bytes
  pub changed : puts (standard 4) (puts (standard 4) fresh_bytes (event 1 3 0)) (set_policy 2 7 4) ≡ changed_bytes

-- a log of all five kinds, and its cut last record
abbrev pub log : List ℕ
log =
    5 ∷ 0 ∷ 16 ∷ 0 ∷ 0 ∷ 1 ∷ 3 ∷ 0 ∷ 2
    ∷ 4 ∷ 0 ∷ 17 ∷ 0 ∷ 2 ∷ 0 ∷ 7 ∷ 12
    ∷ 4 ∷ 0 ∷ 18 ∷ 0 ∷ 1 ∷ 0 ∷ 2 ∷ 0
    ∷ 4 ∷ 0 ∷ 19 ∷ 0 ∷ 3 ∷ 0 ∷ 4 ∷ 0
    ∷ 5 ∷ 0 ∷ 20 ∷ 0 ∷ 5 ∷ 0 ∷ 6 ∷ 0 ∷ 1
    ∷ 5 ∷ 0 ∷ 20 ∷ 0 ∷ 5 ∷ 0 ∷ 6 ∷ 0
    ∷ []

-- records that are refused: cut before its kind; a find with a byte too many; a view's body under kind 21; a find's under 18 + 256
abbrev pub cut_head : List ℕ
cut_head = 4 ∷ 0 ∷ []

abbrev pub too_long : List ℕ
too_long = 5 ∷ 0 ∷ 18 ∷ 0 ∷ 1 ∷ 0 ∷ 2 ∷ 0 ∷ 0 ∷ []

abbrev pub kind21 : List ℕ
kind21 = 5 ∷ 0 ∷ 21 ∷ 0 ∷ 5 ∷ 0 ∷ 6 ∷ 0 ∷ 1 ∷ []

abbrev pub kind274 : List ℕ
kind274 = 4 ∷ 0 ∷ 18 ∷ 1 ∷ 1 ∷ 0 ∷ 2 ∷ 0 ∷ []

-- a log, a place, what the reader says there, where a list is lent 256 places, and its place afterwards
abbrev pub Reading : Type 0
Reading = List ℕ × ℕ × Outcome × ℕ

abbrev pub AllRead : List Reading → Type 0
AllRead [] = Unit {0}
AllRead ((b, place, says, after) ∷ rows) = NextAt b 256 place says × (place_after b place says ≡ after) × AllRead rows

abbrev pub readings : List Reading
readings =
    -- each record at the place after the one before it; the sixth is cut, and there the place stays
    (log, 0, request (event 256 3 2), 9)
    ∷ (log, 9, request (set_policy 2 7 12), 17)
    ∷ (log, 17, request (find 1 2), 25)
    ∷ (log, 25, request (list 3 4 256), 33)
    ∷ (log, 33, request (view 5 6 1), 42)
    ∷ (log, 42, refused 14, 42)
    -- no bytes left, and beyond the end
    ∷ (log, 50, ended, 50)
    ∷ (log, 60, ended, 60)
    ∷ ([], 0, ended, 0)
    -- 14
    ∷ (cut_head, 0, refused 14, 0)
    ∷ (too_long, 0, refused 14, 0)
    ∷ (kind21, 0, refused 14, 0)
    ∷ (kind274, 0, refused 14, 0)
    ∷ []
