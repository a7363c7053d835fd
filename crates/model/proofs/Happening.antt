-- Every run of the plain machine is a list of calls, so the claims about lists of calls speak of all of them.
use Prim.Native.Nat.{ℕ}
use mathlib.Core.Path.{refl, sym, ◌∙◌, ap, subst}
use mathlib.Core.List.{List, [], ◌∷◌}
use mathlib.Core.Logic.{inr}
use native.Mathlib.Omega.{arith}
use Rattle.model.specs.Scheme.{Scheme}
use Rattle.model.specs.SchemeBytes.{scheme_of, scheme_needs, Accepted}
use Rattle.model.specs.Network.{Maps, held, Valid}
use Rattle.model.specs.Requests.{needs, Turn, granted}
use Rattle.model.specs.Calls.{puts, Called}
use Rattle.model.specs.Machine.{Judged, after, Runs}
use Rattle.model.specs.Traces.{Call, Happens, trace_of}
use Rattle.model.specs.Claims.{FromValid}
use Rattle.model.proofs.Answering.{granted_met, behind}
use Rattle.model.proofs.Tracing.{called}

-- a call may be whatever `Called` says
module _ (Calls : Call) (complete : (b net : List ℕ) (t : Turn) (after : List ℕ) → Called b net t after → Calls b net t after) where
  -- where the machine's maps are the bytes', the calls can be answered as the machine answers
  pub runs_happen : (b : List ℕ) → Accepted b → (net : List ℕ) (s : Maps) → FromValid b net s → (ts : List Turn) → Runs (scheme_of b) s ts
      → Happens Calls b net (trace_of (scheme_of b) net ts)
  runs_happen b a net s f [] r = tt
  runs_happen b a net s (w, e) (t ∷ ts) (j, r) =
      let c : Scheme = scheme_of b in
      let left : List ℕ = granted t.answer (puts c net t.request) net in
      let h : Judged c (held c net) t = subst (λ (x : Maps). Judged c x t) e j in
      let k : Called b net t left =
      record {
        answered = behind (scheme_needs b) ((5, Valid c net) ∷ needs c (held c net) t.request) t.answer (granted_met (scheme_needs b) (omega arith) a) (inr (w, h.answered));
        wrote = h.wrote;
        bytes = refl;
      }
      in
      let (i, l, w') = called b a net t left w k in
      (complete b net t left k, runs_happen b a left (after c s t) (w', ap (λ (x : Maps). after c x t) e ∙ sym l) ts r)
