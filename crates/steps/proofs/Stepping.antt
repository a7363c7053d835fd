-- The steps of the log program.
use Prim.Native.Nat.{ℕ, ◌+◌}
use mathlib.Core.Path.{◌≡◌, refl}
use mathlib.Core.List.{List, ◌++◌}
use native.Mathlib.Omega.{arith}
use lib.ListN.{length, take, drop, length-append}
use lib.Seq.{take_at, drop_at}
use Rattle.std.specs.Prelude.{Some, Result, Ok, Err}
use Rattle.std.specs.Result.{result_unwrap_or}
use Rattle.model.specs.Text.{line_of}
use Rattle.lines.specs.Put.{Put}
use Rattle.refusals.specs.Numbers.{answer_of, count_of}
use Rattle.refusals.specs.declared.Refusal.{Refusal}
use Rattle.record_call.specs.Lined.{LineOf}
use Rattle.fresh_start.specs.Stands.{Stepped}
use Rattle.fresh_start.specs.declared.Stand.TheVariants.{At}

-- a refusal counts nothing
pub counted : (a : Result ℕ Refusal) → result_unwrap_or a 0 ≡ count_of a
counted (Ok n) = refl
counted (Err r) = refl

module _ (b log net old : List ℕ) (used : ℕ) where
  -- the step of a record
  module _ (place position size : ℕ) (out part left : List ℕ) (a : Result ℕ Refusal) (following : ℕ) (lent : 256 ≡ length out) (h : LineOf b log place (take size net) out a (Some following) part left) where
    pub step_next : (answer many end : ℕ) (after : List ℕ) → answer ≡ answer_of a → many ≡ count_of a → length part ≡ size
        → Put old used (line_of position answer (take many left)) end after
        → Stepped b log (record { stand = At place position size; network = net; buffer = old; used = used })
        (record { stand = At following (position + 1) size; network = part ++ drop size net; buffer = after; used = end })
    step_next answer many end after e f long p =
        let (q, n, m, l) = h in
        let put : Put old used (line_of position (answer_of a) (take (count_of a) left)) end after = rw (e, f) at p in
        record {
          line = line_of position (answer_of a) (take (count_of a) left);
          steps = rw (take_at part (drop size net) size long) (record { request = q; answer = answer_of a; written = take (count_of a) left }, rw (← lent) at n, l.called, refl, m, refl);
          put = put;
          only = record { within = omega (arith, long, length-append part (drop size net)); behind = drop_at part (drop size net) size long };
        }
