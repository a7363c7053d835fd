-- How many steps are left at the most.
use Prim.Native.Nat.{ℕ, zero, suc, ◌+◌, ◌-◌, ◌≤◌, ◌<◌}
use mathlib.Core.List.{List}
use native.Mathlib.Omega.{arith}
use lib.ListN.{length}
use Rattle.model.specs.Text.{State, start, running, over, start_needs, places, Step, Prints}
use Rattle.model.proofs.Answering.{granted_met}
use Rattle.model.proofs.Logging.{within}

module _ (b log : List ℕ) where
  abbrev pub rank : State → ℕ
  rank start = 16387
  rank (running place position net) = 1 + (length log - place)
  rank over = 0

  pub step_less : (s t : State) (line : List ℕ) → Step b log s line t → rank t < rank s
  step_less start start line p = absurd p
  step_less start (running i n net) line p =
      let m = granted_met (start_needs b log) (omega arith) p.0 in
      let l : length log ≤ 16384 = m.1.1.1.1.1.0 in
      omega arith
  step_less start over line p = omega arith
  step_less (running i n net) start line p = absurd p
  step_less (running i n net) (running j k net') line (t, at, _, _, e, _) =
      let (x, y) = within log places i t.request at.1 in
      omega (arith, x, y, e)
  step_less (running i n net) over line p = omega arith
  step_less over t line p = absurd p

  pub prints_less : (k : ℕ) (s t : State) (text : List ℕ) → Prints b log k s text t → rank t + k ≤ rank s
  prints_less zero s t text (_, e) = rw e (omega arith)
  prints_less (suc k) s t text (line, m, rest, one, _, p) = let a = step_less s m line one in let r = prints_less k m t rest p in omega arith
