-- What the call of a request leaves is one of the five calls.
use Rattle.std.proofs.Common.{ℕ, zero, suc, ◌≡◌, refl, ◌∙◌, List, [], Result, Ok, Err, length, take}
use Rattle.std.specs.Borrow.{Bor, MutBor}
use Rattle.model.specs.Requests.{granted}
use Rattle.model.specs.Calls.{Left}
use Rattle.model.proofs.Leaving.{none_granted}
use Rattle.refusals.specs.Numbers.{answer_of, count_of}
use Rattle.refusals.specs.declared.Refusal.{Refusal}
use Rattle.kinds.specs.Kinds.{request_of}
use Rattle.kinds.specs.declared.Request.{Request}
use Rattle.kinds.specs.declared.Request.TheVariants.{Event, Set, Find, List as ListOf, View}
use Rattle.claims.specs.Cite.{CallOf, Granted}

-- some reference to these bytes
ref : List ℕ → Bor (List ℕ)
ref l = record { ref_ptr = (0, 0); now = l }

ref_mut : List ℕ → MutBor (List ℕ)
ref_mut l = record { ref_ptr = (0, 0); ghost_name = 0; now = l }

either : {A : Type 0} (k : ℕ) (x : A) → granted k x x ≡ x
either zero x = refl
either (suc k) x = refl

-- the result of a call that writes no list
uncounted : (told : Result ℕ Refusal) → (plain : Granted) × (answer_of told ≡ answer_of plain)
uncounted (Ok count) = (Ok tt, refl)
uncounted (Err refusal) = (Err refusal, refl)

module _ (b net out : List ℕ) where
  pub made : (asked : Request) (told : Result ℕ Refusal) (left after : List ℕ) → Left b net (request_of asked (length out)) out (answer_of told) (count_of told) left after
      → CallOf b net (request_of asked (length out)) (answer_of told) (take (count_of told) left) after
  unfolding ref ref_mut
  made (Event v u a) told left after l =
      let w : take (count_of told) left ≡ [] = l.called.wrote ∙ none_granted (answer_of told) (λ _. refl) in
      let (plain, e) = uncounted told in
      (([], ([], tt)), ref b, ref_mut net, refl, refl, (w, (plain, e, rw (w, e) at l.called)))
  made (Set u r p) told left after l =
      let w : take (count_of told) left ≡ [] = l.called.wrote ∙ none_granted (answer_of told) (λ _. refl) in
      let (plain, e) = uncounted told in
      (([], ([], tt)), ref b, ref_mut net, refl, refl, (w, (plain, e, rw (w, e) at l.called)))
  made (Find v u) told left after l =
      let w : take (count_of told) left ≡ [] = l.called.wrote ∙ none_granted (answer_of told) (λ _. refl) in
      let same : after ≡ net = l.called.bytes ∙ either (answer_of told) net in
      let (plain, e) = uncounted told in
      (([], ([], tt)), ref b, ref net, refl, refl, (w, (same, (plain, e, rw (w, same, e) at l.called))))
  made (ListOf v u) told left after l =
      let same : after ≡ net = l.called.bytes ∙ either (answer_of told) net in
      (([], ([], ([], tt))), ref b, ref net, ref_mut out, told, left, refl, refl, refl, refl, refl, (same, rw same at l))
  made (View v u o) told left after l =
      let w : take (count_of told) left ≡ [] = l.called.wrote ∙ none_granted (answer_of told) (λ _. refl) in
      let same : after ≡ net = l.called.bytes ∙ either (answer_of told) net in
      let (plain, e) = uncounted told in
      (([], ([], tt)), ref b, ref net, refl, refl, (w, (same, (plain, e, rw (w, same, e) at l.called))))
