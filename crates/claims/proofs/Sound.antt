-- Each of the five calls is what the model says of it.
use Prim.Native.Nat.{ℕ}
use mathlib.Core.List.{List}
use Rattle.model.specs.Requests.{list, Turn}
use Rattle.model.specs.Calls.{Called}
use Rattle.claims.specs.Cite.{EventTold, SetTold, FindTold, ViewTold, ListMade, CallMade}
use Rattle.claims.proofs.FromContracts.{sound as five-sound}

list_says : (b net : List ℕ) (v u places answer : ℕ) (written after : List ℕ) → ListMade b net v u places answer written after
    → Called b net (record { request = list v u places; answer = answer; written = written }) after
list_says b net v u places answer written after (κs, s, n, o, told, left, eb, en, ep, ea, ew, (e, h)) = rw (← eb, ← en, ← ep, ea, ew, e) h.called

pub sound : (b net : List ℕ) (t : Turn) (after : List ℕ) → CallMade b net t after → Called b net t after
sound b net t after c =
    five-sound EventTold SetTold FindTold ViewTold ListMade
    (λ v u a k κs s n after (told, q, h). rw q h)
    (λ u r p k κs s n after (told, q, h). rw q h)
    (λ v u k κs s n after (e, (told, q, h)). rw (e, q) h)
    (λ v u o k κs s n after (e, (told, q, h)). rw (e, q) h)
    list_says b net t.request t.answer t.written after c
