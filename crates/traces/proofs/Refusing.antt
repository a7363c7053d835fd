-- What scheme or network refuses, every call refuses.
use Prim.Native.Nat.{ℕ, zero, suc}
use mathlib.Core.Path.{◌≡◌, refl, sym, ◌∙◌}
use mathlib.Core.List.{List, [], ◌∷◌}
use native.Mathlib.Omega.{arith}
use Rattle.model.specs.Answers.{Answers}
use Rattle.model.specs.SchemeBytes.{scheme_of}
use Rattle.model.specs.Network.{held}
use Rattle.model.specs.Requests.{needs, Turn, granted}
use Rattle.model.specs.Calls.{open_needs, call_needs, Called}
use Rattle.model.specs.Traces.{Trace, Happens}
use Rattle.model.proofs.Answering.{answers_unique, ahead}
use Rattle.claims.specs.Cite.{CallMade}
use Rattle.traces.specs.Ran.{AllRefused}
use Rattle.claims.proofs.Sound.{sound}

not_granted : {A : Type 0} (k : ℕ) (x y : A) → (k ≡ 0 → ⊥) → granted k x y ≡ y
not_granted zero x y n = absurd (n refl)
not_granted (suc k) x y n = refl

refused_call : (b net : List ℕ) (t : Turn) (after : List ℕ) (k : ℕ) → (k ≡ 0 → ⊥) → Answers (open_needs b net) k → Called b net t after
    → (t.answer ≡ k) × (t.written ≡ []) × (after ≡ net)
refused_call b net t after k n r c =
    let e : t.answer ≡ k = answers_unique (call_needs b net t.request) t.answer k c.answered
    (ahead (open_needs b net) (needs (scheme_of b) (held (scheme_of b) net) t.request) k (omega arith) r) in
    (e, c.wrote ∙ not_granted t.answer _ _ (λ z. n (sym e ∙ z)), c.bytes ∙ not_granted t.answer _ _ (λ z. n (sym e ∙ z)))

pub all_refused : (b net : List ℕ) (ts : Trace) (k : ℕ) → (k ≡ 0 → ⊥) → Answers (open_needs b net) k → Happens CallMade b net ts → AllRefused k net ts
all_refused b net [] k n r h = tt
all_refused b net ((t, after) ∷ ts) k n r (c, h) =
    let (x, y, z) = refused_call b net t after k n r (sound b net t after c) in
    (x, y, z, all_refused b net ts k n r (rw z at h))
