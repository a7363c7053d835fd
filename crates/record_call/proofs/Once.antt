-- Equal inputs leave no two results: the line of a record, the network and the output.
use Prim.Native.Nat.{ℕ}
use mathlib.Core.Path.{◌≡◌, refl, sym, ◌∙◌, ap}
use mathlib.Core.List.{List}
use lib.ListN.{length}
use Rattle.std.specs.Prelude.{Option, Some, None, Result}
use Rattle.model.specs.Requests.{Request}
use Rattle.model.specs.Log.{ended, refused, request, place_after}
use Rattle.model.proofs.Leaving.{left_once}
use Rattle.model.proofs.Logging.{next_once}
use Rattle.model.proofs.Texts.{request_is, never, not_ended, not_both}
use Rattle.refusals.specs.declared.Refusal.{Refusal}
use Rattle.refusals.proofs.Apart.{result_apart}
use Rattle.record_call.specs.Lined.{LineOf, Lined}
use Rattle.record_call.specs.declared.Line.{Line}

module _ (b log : List ℕ) (k : ℕ) (net out : List ℕ) where
  line_once : (a c : Result ℕ Refusal) (i j : Option ℕ) (m n o p : List ℕ) → LineOf b log k net out a i m o → LineOf b log k net out c j n p
      → (a ≡ c) × (i ≡ j) × (m ≡ n) × (o ≡ p)
  line_once a c (Some i) (Some j) m n o p (q, s, e, l) (q', s', e', l') =
      let same : q ≡ q' = request_is (next_once log (length out) k (request q) (request q') s s') in
      let (answer, count, output, network) = left_once b net q' out (rw same at l) l' in
      let place : i ≡ j = e ∙ ap (λ (r : Request). place_after log k (request r)) same ∙ sym e' in
      (result_apart a c answer count, ap Some place, network, output)
  line_once a c (Some i) None m n o p (q, s, _, _) (r, _, _, _) = never (next_once log (length out) k (request q) (refused 14) s r)
  line_once a c None (Some j) m n o p (r, _, _, _) (q, s, _, _) = never (next_once log (length out) k (request q) (refused 14) s r)
  line_once a c None None m n o p (_, x, e, f) (_, y, g, h) = (x ∙ sym y, refl, e ∙ sym g, f ∙ sym h)

  none_at_end : (a : Result ℕ Refusal) (i : Option ℕ) (m n o p : List ℕ) → LineOf b log k net out a i m o → Lined b log k net out None n p → ⊥
  none_at_end a (Some i) m n o p (q, s, _, _) (r, _, _) = not_ended (next_once log (length out) k (request q) ended s r)
  none_at_end a None m n o p (r, _, _, _) (s, _, _) = not_both (next_once log (length out) k (refused 14) ended r s)

  pub lined_once : (x y : Option Line) (m n o p : List ℕ) → Lined b log k net out x m o → Lined b log k net out y n p → (x ≡ y) × (m ≡ n) × (o ≡ p)
  lined_once (Some x) (Some y) m n o p f g =
      let (a, i, net', out') = line_once x.answer y.answer x.next y.next m n o p f g in
      (λ z. Some (record { answer = a z; next = i z }), net', out')
  lined_once (Some x) None m n o p f g = absurd (none_at_end x.answer x.next m n o p f g)
  lined_once None (Some y) m n o p f g = absurd (none_at_end y.answer y.next n m p o g f)
  lined_once None None m n o p (_, e, f) (_, g, h) = (refl, e ∙ sym g, f ∙ sym h)
