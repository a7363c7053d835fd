-- A state joins the set where its byte is 1.
use Rattle.std.proofs.Common.{◌≡◌, ℕ, ◌+◌, List, arith, true, false, ap, sym, ◌∙◌, eq-eqb, ne_eqb}
use Rattle.model.specs.Bytes.{byte}
use Rattle.model.specs.SchemeBytes.{at3, scheme_of}
use Rattle.model.proofs.Sets.{added, left_out, built_more}
use Rattle.friend_marks.proofs.marks.Goals as goal
use Rattle.friend_marks.proofs.marks.Goals.{then-scheme-at-eq1, else-scheme-at-eq1}

yes_mark : (b : List ℕ) (at q : ℕ) → at ≡ at3 b + 4 → byte b (at + q) ≡ 1 → (scheme_of b).friendly q ≡ true
yes_mark b at q e h = eq-eqb (byte b (at3 b + 4 + q)) 1 (ap (λ (x : ℕ). byte b (x + q)) (sym e) ∙ h)

no_mark : (b : List ℕ) (at q : ℕ) → at ≡ at3 b + 4 → (byte b (at + q) ≡ 1 → ⊥) → (scheme_of b).friendly q ≡ false
no_mark b at q e h = ne_eqb (byte b (at3 b + 4 + q)) 1 (λ z. h (ap (λ (x : ℕ). byte b (x + q)) e ∙ z))

pub loop-q-preserved : goal.loop-q-preserved
loop-q-preserved c =
    let s = c.args.scheme.now in
    let b = s.bytes.now in
    let q = c.loop-q.q in
    let i = c.loop-q.invariant in
    let place = c.marks_at-at.ensures.2 b s.read.counts in
    built_more (scheme_of b).friendly q _ _ i
    (elim c.if-scheme-at-eq1.branch [
      | then-scheme-at-eq1 w ↦ rw (w.set-is, yes_mark b _ q place w.if-scheme-at-eq1.true) (added 16 _ q (omega arith) i.none_above)
      | else-scheme-at-eq1 w ↦ rw (w.set-is, no_mark b _ q place w.if-scheme-at-eq1.false) (left_out _ q i.none_above)
    ])
