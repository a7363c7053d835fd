use Rattle.std.proofs.Common.{ℕ, ◌+◌, ◌*◌, ◌/◌, ◌%◌, ◌<◌, ◌≡◌, arith, rules, ap, ◌∙◌, get_or}
use native.Mathlib.Nat.{div-add-mod}
use Rattle.model.specs.Bytes.{digit}
use Rattle.sets.proofs.Made.{made_each}
use Rattle.lower_rows.proofs.row.Goals as goal

pub returns : goal.returns
returns c = λ k h.
    made_each (λ i y. (j : ℕ) → j < 64 → digit y j ≡ get_or c.args.flags.now (64 * i + j) 0) (λ i y f l k. (search (k.met, rules), search (k.met, rules))) c.from_fn.ensures.items (k / 64) (omega arith) (k % 64) (omega arith)
    ∙ ap (λ (x : ℕ). get_or c.args.flags.now x 0) (div-add-mod k 64)
