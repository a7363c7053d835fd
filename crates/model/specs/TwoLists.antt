-- Two lists that differ in what one member chooses for its items (docs/reference.md, "The plain machine").
use Rattle.std.specs.Prelude.{ℕ, ◌+◌, ◌<◌, ◌≤◌, ◌≡◌, List, [], ◌∷◌, ◌⊎◌, get_or}
use Rattle.model.specs.Scheme.{Scheme, resources}
use Rattle.model.specs.Finding.{Finds}
use Rattle.model.specs.Network.{Maps, setting_place, world}
use Rattle.model.specs.Requests.{Request, set_policy, view, Turn}
use Rattle.model.specs.Machine.{after}

-- r is an item
abbrev pub Item : Scheme → ℕ → Type 0
Item c r = (2 + c.primitives ≤ r) × (r < resources c)

module _ (c : Scheme) (u : ℕ) where
  -- two different choices for one item of u
  abbrev pub Changed : Request → Request → Type 0
  Changed q q' = (r p p' : ℕ) × Item c r × (p ≡ p' → ⊥) × (q ≡ set_policy u r p) × (q' ≡ set_policy u r p')

  -- the same requests but for the p of choices of u's items
  abbrev pub Similar : List Turn → List Turn → Type 0
  Similar [] [] = Unit {0}
  Similar [] (t' ∷ ts') = ⊥
  Similar (t ∷ ts) [] = ⊥
  Similar (t ∷ ts) (t' ∷ ts') =
      ((t.request ≡ t'.request) ⊎ Changed t.request t'.request) × Similar ts ts'

  -- a view of an item of u's by a member that finds u
  abbrev pub Viewed : Maps → Request → Type 0
  Viewed s q = (v o : ℕ) × (v < c.members) × (o < c.items) × (q ≡ view v u o) × Finds (world c s) v u

  -- equal lists, and equal answers but to those choices and to such views, on the maps at that moment
  abbrev pub Alike : Maps → List Turn → List Turn → Type 0
  Alike s [] [] = Unit {0}
  Alike s [] (t' ∷ ts') = ⊥
  Alike s (t ∷ ts) [] = ⊥
  Alike s (t ∷ ts) (t' ∷ ts') =
      ((t.answer ≡ t'.answer) ⊎ (Changed t.request t'.request ⊎ Viewed s t.request))
      × (t.written ≡ t'.written)
      × Alike (after c s t) ts ts'

  -- the same bytes but for u's settings of items
  abbrev pub OthersSame : List ℕ → List ℕ → Type 0
  OthersSame net net' = (k : ℕ) → ((r : ℕ) → Item c r → k ≡ setting_place c u r → ⊥) → get_or net k 0 ≡ get_or net' k 0
