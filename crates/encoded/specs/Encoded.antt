-- Encoded requests: four numbers each, the kind and three more.
use Rattle.std.specs.Prelude.{ℕ, zero, suc, ◌+◌, ◌*◌, min, ◌≡◌, List, get_or, take, drop}
use Rattle.model.specs.Requests.{Request, event, set_policy, find, list, view}
use Rattle.claims.specs.Cite.{CallOf}

-- the kinds: 0 event, 1 set, 2 find, 3 list, which is lent z of its 256 places, all where z is more; any other number view
abbrev pub decoded : ℕ → ℕ → ℕ → ℕ → Request
decoded zero x y z = event x y z
decoded (suc zero) x y z = set_policy x y z
decoded (suc (suc zero)) x y z = find x y
decoded (suc (suc (suc zero))) x y z = list x y (min z 256)
decoded (suc (suc (suc (suc k)))) x y z = view x y z

-- request n
abbrev pub request_at : List ℕ → ℕ → Request
request_at l n = decoded (get_or l (4 * n) 0) (get_or l (4 * n + 1) 0) (get_or l (4 * n + 2) 0) (get_or l (4 * n + 3) 0)

-- the nth 256 places
abbrev pub places_of : List ℕ → ℕ → List ℕ
places_of lists n = take 256 (drop (256 * n) lists)

-- request n: its list stands at the front of the nth places, and all other places are as they were
abbrev pub Turned : List ℕ → List ℕ → List ℕ → ℕ → List ℕ → ℕ → ℕ → List ℕ → List ℕ → Type 0
Turned b net encoded n lists answer count left after =
    CallOf b net (request_at encoded n) answer (take count (places_of left n)) after
    × (take (256 * n) left ≡ take (256 * n) lists)
    × (drop (256 * n + count) left ≡ drop (256 * n + count) lists)
