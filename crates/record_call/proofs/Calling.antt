-- A record was read, and its request called.
use Prim.Native.Nat.{ℕ}
use mathlib.Core.Path.{◌≡◌, refl, ap}
use mathlib.Core.List.{List}
use native.Mathlib.Omega.{arith}
use lib.ListN.{length}
use Rattle.std.specs.Prelude.{Some, None, Ok, Err, Result}
use mathlib.Core.Logic.{inl, inr}
use Rattle.model.specs.Answers.{Answers}
use Rattle.model.specs.Calls.{Left}
use Rattle.model.specs.Log.{record_needs, refused, NextAt}
use Rattle.kinds.specs.Kinds.{request_of}
use Rattle.kinds.specs.declared.Request.{Request as Asked}
use Rattle.log_records.specs.Read.{Read}
use Rattle.refusals.specs.Numbers.{number, answer_of, count_of}
use Rattle.refusals.specs.declared.Refusal.{Refusal}
use Rattle.refusals.specs.declared.Refusal.TheVariants.{LogRecord}
use Rattle.refusals.proofs.Apart.{number_apart, number_above}
use Rattle.record_call.specs.Lined.{LineOf, Lined}

module _ (b log : List ℕ) (k : ℕ) (net out : List ℕ) where
  pub went : (asked : Asked) (place : ℕ) (answer : Result ℕ Refusal) (after left : List ℕ) → Read log k (Some (Ok asked)) place
      → Left b net (request_of asked (length out)) out (answer_of answer) (count_of answer) left after
      → LineOf b log k net out answer (Some place) after left
  went asked place answer after left r l = (request_of asked (length out), r.says (length out), r.moves (length out), l)

  fourteen : (refusal : Refusal) → Answers (record_needs log (length out) k) (number refusal) → refusal ≡ LogRecord
  fourteen refusal (inl p) = number_apart refusal LogRecord p.1
  fourteen refusal (inr p) = absurd (omega (arith, number_above refusal, p.1))

  -- a 14: nothing was called
  pub last_line : (refusal : Refusal) (place : ℕ) → Read log k (Some (Err refusal)) place → LineOf b log k net out (Err refusal) None net out
  last_line refusal place r =
      let s : NextAt log (length out) k (refused (number refusal)) = r.says (length out) in
      let e : refusal ≡ LogRecord = fourteen refusal s.1 in
      let t : NextAt log (length out) k (refused 14) = rw e at s in
      (t, ap Err e, refl, refl)

  -- the log's end
  pub no_line : {place : ℕ} → Read log k None place → Lined b log k net out None net out
  no_line r = (r.says (length out), refl, refl)
