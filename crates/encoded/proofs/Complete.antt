-- Whatever the model says of a call, one of the five calls may be: the claims about lists of calls speak of every run.
use Rattle.std.proofs.Common.{ℕ, ◌≡◌, refl, ◌∙◌, ap, List, [], ◌++◌, length, take, drop, replicate, arith}
use Rattle.std.proofs.lemmas.List.{length-replicate}
use Rattle.model.specs.Requests.{Request, event, set_policy, find, list, view, Turn}
use Rattle.model.specs.Calls.{Called, Left}
use Rattle.model.specs.HiddenRecipe.{HiddenRecipe}
use Rattle.model.specs.Consent.{SessionConsent}
use Rattle.model.proofs.Leaving.{none_granted, front_only}
use Rattle.model.proofs.HiddenRecipe.{hidden_recipe}
use Rattle.model.proofs.Consented.{session_consent}
use Rattle.kinds.specs.Kinds.{request_of}
use Rattle.kinds.specs.declared.Request.{Request as Asked}
use Rattle.kinds.specs.declared.Request.TheVariants.{Event, Set, Find, List as ListOf, View}
use Rattle.claims.specs.Cite.{CallOf, CallMade}
use Rattle.encoded.proofs.Numbers.{Telling, telling}
use Rattle.encoded.proofs.Made.{made}
use Rattle.claims.proofs.Sound.{sound}

abbrev turn : Request → ℕ → List ℕ → Turn
turn q answer written = record { request = q; answer = answer; written = written }

module _ (b net : List ℕ) where
  counted : (out : List ℕ) (q : Asked) (answer count : ℕ) (left after : List ℕ) → Telling answer count
      → Left b net (request_of q (length out)) out answer count left after
      → CallOf b net (request_of q (length out)) answer (take count left) after
  counted out q answer count left after (told, e, c) l = rw (← e, ← c) (made b net out q told left after (rw (← e, ← c) at l))

  plain : (q : Asked) (answer : ℕ) (written after : List ℕ) → written ≡ [] → Called b net (turn (request_of q 0) answer written) after
      → CallOf b net (request_of q 0) answer written after
  plain q answer written after w k =
      rw w
      (counted [] q answer 0 [] after (telling b net (request_of q 0) answer 0 k.answered (λ _. refl))
      (record { called = rw w at k; front = record { within = omega arith; behind = refl } }))

  listing : (v u places answer : ℕ) (written after : List ℕ) → Called b net (turn (list v u places) answer written) after
      → CallOf b net (list v u places) answer written after
  listing v u places answer written after k =
      let out : List ℕ = replicate places 0 in
      let n : length out ≡ places = length-replicate {A = ℕ} places 0 in
      let (f, e) = front_only written out in
      let none : (answer ≡ 0 → ⊥) → length written ≡ 0 = λ r. ap length (k.wrote ∙ none_granted answer (λ z. absurd (r z))) in
      rw (← n, ← e)
      (counted out (ListOf v u) answer (length written) (written ++ drop (length written) out) after
      (telling b net (list v u places) answer (length written) k.answered none)
      (record { called = rw (n, e) k; front = f }))

complete_of : (b net : List ℕ) (q : Request) (answer : ℕ) (written after : List ℕ) → Called b net (turn q answer written) after → CallOf b net q answer written after
complete_of b net (event v u a) answer written after k = plain b net (Event v u a) answer written after (k.wrote ∙ none_granted answer (λ _. refl)) k
complete_of b net (set_policy u r p) answer written after k = plain b net (Set u r p) answer written after (k.wrote ∙ none_granted answer (λ _. refl)) k
complete_of b net (find v u) answer written after k = plain b net (Find v u) answer written after (k.wrote ∙ none_granted answer (λ _. refl)) k
complete_of b net (list v u places) answer written after k = listing b net v u places answer written after k
complete_of b net (view v u o) answer written after k = plain b net (View v u o) answer written after (k.wrote ∙ none_granted answer (λ _. refl)) k

pub complete : (b net : List ℕ) (t : Turn) (after : List ℕ) → Called b net t after → CallMade b net t after
complete b net t after k = complete_of b net t.request t.answer t.written after k

-- the two lists, and what the claims say of them, as calls of the program
pub hidden_recipe_called : HiddenRecipe CallMade
hidden_recipe_called = hidden_recipe CallMade sound complete

-- and the session, with what its events tell of consent
pub session_consent_called : SessionConsent CallMade
session_consent_called = session_consent CallMade sound complete
