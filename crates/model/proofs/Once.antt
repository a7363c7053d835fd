-- Equal inputs leave no two results: fresh, one request, and a list of requests.
use Prim.Native.Nat.{ℕ, zero, suc}
use mathlib.Core.Path.{◌≡◌, refl, sym, ◌∙◌, ap₂}
use mathlib.Core.List.{List, [], ◌∷◌}
use native.Mathlib.Omega.{arith}
use Rattle.model.specs.Scheme.{Scheme}
use Rattle.model.specs.SchemeBytes.{scheme_of}
use Rattle.model.specs.Network.{Maps, fresh, held}
use Rattle.model.specs.Requests.{Request, needs, writes, Turn, granted}
use Rattle.model.specs.Calls.{fresh_needs, Freshened, puts, call_needs, Called}
use Rattle.model.specs.Machine.{Judged, after}
use Rattle.model.specs.Claims.{OneAnswer}
use Rattle.model.proofs.Answering.{answers_unique}
use Rattle.model.proofs.Held.{laid_once}

-- fresh: one answer, and one network
pub fresh_once : (b net : List ℕ) (k k' : ℕ) (left left' : List ℕ) → Freshened b net k left → Freshened b net k' left' → (k ≡ k') × (left ≡ left')
fresh_once b net k k' left left' f g = (same, go k k' same f g)
  where
    same : k ≡ k'
    same = answers_unique (fresh_needs b net) k k' f.answered g.answered

    go : (x y : ℕ) → x ≡ y → Freshened b net x left → Freshened b net y left' → left ≡ left'
    go zero zero e p q = laid_once (scheme_of b) (fresh (scheme_of b)) left left' (p.made refl) (q.made refl)
    go zero (suc y) e p q = absurd (omega arith)
    go (suc x) zero e p q = absurd (omega arith)
    go (suc x) (suc y) e p q = p.kept (λ z. omega arith) ∙ sym (q.kept (λ z. omega arith))

-- one request: one answer, one list written, and one network
pub called_once : (b net : List ℕ) (t t' : Turn) (left left' : List ℕ) → Called b net t left → Called b net t' left' → t.request ≡ t'.request
    → (t ≡ t') × (left ≡ left')
called_once b net t t' left left' f g e = (λ i. record { request = e i; answer = a i; written = w i }, l)
  where
    a : t.answer ≡ t'.answer
    a = answers_unique (call_needs b net t'.request) t.answer t'.answer (rw e at f.answered) g.answered

    w : t.written ≡ t'.written
    w = f.wrote ∙ ap₂ (λ (x : ℕ) (q : Request). granted x (writes (scheme_of b) (held (scheme_of b) net) q) []) a e ∙ sym g.wrote

    l : left ≡ left'
    l = f.bytes ∙ ap₂ (λ (x : ℕ) (q : Request). granted x (puts (scheme_of b) net q) net) a e ∙ sym g.bytes

turn_once : (c : Scheme) (s : Maps) (t u : Turn) → Judged c s t → Judged c s u → t.request ≡ u.request → t ≡ u
turn_once c s t u j k q = λ i. record { request = q i; answer = a i; written = w i }
  where
    a : t.answer ≡ u.answer
    a = answers_unique (needs c s u.request) t.answer u.answer (rw q at j.answered) k.answered

    w : t.written ≡ u.written
    w = j.wrote ∙ ap₂ (λ (x : ℕ) (y : Request). granted x (writes c s y) []) a q ∙ sym k.wrote

pub one_answer : OneAnswer
one_answer c s [] [] r r' e = refl
one_answer c s [] (u ∷ us) r r' e = let z : ◌≡◌ {A = ℕ} 0 1 = cc in absurd (omega arith)
one_answer c s (t ∷ ts) [] r r' e = let z : ◌≡◌ {A = ℕ} 0 1 = cc in absurd (omega arith)
one_answer c s (t ∷ ts) (u ∷ us) (j, r) (k, r') e =
    let h : t ≡ u = turn_once c s t u j k cc in
    ap₂ ◌∷◌ h (one_answer c (after c s u) ts us (rw h at r) r' cc)
