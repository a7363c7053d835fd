-- Each of the five exported calls is what the model says of it.
use Prim.Native.Nat.{ℕ, zero, suc}
use mathlib.Core.Path.{◌≡◌, refl, ◌∙◌}
use mathlib.Core.List.{List, []}
use lib.ListN.{take}
use Rattle.model.specs.Requests.{list, granted, Turn}
use Rattle.model.specs.Calls.{Called}
use Rattle.claims.proofs.FromContracts.{sound as five-sound}
use Rattle.exported.specs.Cite.{EventTold, SetTold, FindTold, ViewTold, ListMade, ExportedCall}

counted_on_grant : (answer count : ℕ) (l : List ℕ) → granted answer (take count l) [] ≡ take (granted answer count 0) l
counted_on_grant zero count l = refl
counted_on_grant (suc k) count l = refl

list_says : (b net : List ℕ) (v u places answer : ℕ) (written after : List ℕ) → ListMade b net v u places answer written after
    → Called b net (record { request = list v u places; answer = answer; written = written }) after
list_says b net v u places answer written after (κs, s, n, o, count, left, counted, eb, en, ep, ew, (e, h)) =
    rw (← eb, ← en, ← ep, ew ∙ counted_on_grant answer counted left, e) h.left.called

pub sound : (b net : List ℕ) (t : Turn) (after : List ℕ) → ExportedCall b net t after → Called b net t after
sound b net t after c =
    five-sound EventTold SetTold FindTold ViewTold ListMade
    (λ v u a k κs s n after h. h)
    (λ u r p k κs s n after h. h)
    (λ v u k κs s n after (e, h). rw e h)
    (λ v u o k κs s n after (e, h). rw e h)
    list_says b net t.request t.answer t.written after c
