-- The printed examples.
use Prim.Native.Nat.{ℕ, ◌≤◌}
use mathlib.Core.Path.{refl}
use mathlib.Core.List.{List, [], ◌∷◌}
use mathlib.Core.Logic.{inl, inr}
use native.Mathlib.Omega.{arith}
use lib.ListN.{length}
use Rattle.model.specs.Bytes.{RecordAt}
use Rattle.model.specs.SchemeBytes.{scheme_of, scheme_needs, Accepted}
use Rattle.model.specs.Network.{fresh, held, Valid}
use Rattle.model.specs.Requests.{find, needs}
use Rattle.model.specs.Calls.{Called}
use Rattle.model.specs.Standard.{standard_bytes}
use Rattle.model.specs.Examples.{fresh_bytes}
use Rattle.model.specs.Text.{decimal, line_of, running, over}
use Rattle.model.specs.Session.{line}
use Rattle.model.specs.SessionText.{SessionPrinted, NoScheme, FindThenCut}
use Rattle.model.proofs.Answering.{granted_met, behind}
use Rattle.model.proofs.Logging.{refuses}
use Rattle.model.proofs.StandardRead.{standard_accepted}
use Rattle.model.proofs.Exemplified.{layout}
use Rattle.model.proofs.Tracing.{fresh_start}

pub session_printed : SessionPrinted
unfolding line_of decimal
session_printed = refl

pub no_scheme : NoScheme
unfolding line_of decimal
no_scheme log = (1, (line_of 0 1 [], over, [], (1, inl ((λ (h : RecordAt [] 0 1 6). omega (arith, h.0)), refl), omega arith, refl), refl, (refl, refl)))

accepted : Accepted (standard_bytes 4)
accepted = standard_accepted 4 (omega arith) (omega arith)

valid : Valid (scheme_of (standard_bytes 4)) fresh_bytes
valid = (fresh_start (standard_bytes 4) fresh_bytes (fresh (scheme_of (standard_bytes 4))) accepted (layout.fresh, refl)).0

-- 3 finds itself
found : Called (standard_bytes 4) fresh_bytes (line (find 3 3) 0 []) fresh_bytes
found = record {
  answered =
      behind (scheme_needs (standard_bytes 4)) ((5, Valid (scheme_of (standard_bytes 4)) fresh_bytes) ∷ needs (scheme_of (standard_bytes 4)) (held (scheme_of (standard_bytes 4)) fresh_bytes) (find 3 3)) 0
      (granted_met (scheme_needs (standard_bytes 4)) (omega arith) accepted)
      (inr (valid, inr ((omega arith, omega arith), inr ((3, [], (omega arith, inl refl), refl), refl))));
  wrote = refl;
  bytes = refl;
}

abbrev log : List ℕ
log = 4 ∷ 0 ∷ 18 ∷ 0 ∷ 3 ∷ 0 ∷ 3 ∷ 0 ∷ 4 ∷ []

pub find_then_cut : FindThenCut
unfolding line_of decimal
find_then_cut = (
  3,
  (
    [],
    running 0 1 fresh_bytes,
    49 ∷ 32 ∷ 48 ∷ 10 ∷ 50 ∷ 32 ∷ 49 ∷ 52 ∷ 10 ∷ [],
    (behind (scheme_needs (standard_bytes 4)) ((15, length log ≤ 16384) ∷ []) 0 (granted_met (scheme_needs (standard_bytes 4)) (omega arith) accepted) (inr (omega arith, refl)), refl, refl, refl, layout.fresh),
    refl,
    (
      line_of 1 0 [],
      running 8 2 fresh_bytes,
      50 ∷ 32 ∷ 49 ∷ 52 ∷ 10 ∷ [],
      (line (find 3 3) 0 [], ((λ h. omega arith), ((omega arith, refl, refl), refl, refl)), found, refl, refl, refl),
      refl,
      (
        line_of 2 14 [],
        over,
        [],
        inl (refuses log 256 8 (λ h. omega arith) ((λ h. omega (arith, h.0)), (λ h. omega (arith, h.0)), (λ h. omega (arith, h.0)), (λ h. omega (arith, h.0)), (λ h. omega (arith, h.0))), refl),
        refl,
        (refl, refl),
      ),
    ),
  ),
)
