-- One encoded request, called.
use Prim.Native.Nat.{ℕ, zero, suc, ◌+◌, ◌*◌, ◌≤◌, min}
use mathlib.Core.Path.{◌≡◌, refl, ◌∙◌}
use mathlib.Core.List.{List, ◌++◌}
use native.Mathlib.Omega.{arith}
use Rattle.std.specs.Prelude.{Result}
use lib.ListN.{length, get_or, take, drop, length-drop}
use lib.Seq.{length-take-le}
use Rattle.model.specs.Requests.{view}
use Rattle.model.specs.Calls.{Left}
use Rattle.kinds.specs.Kinds.{request_of}
use Rattle.kinds.specs.declared.Request.{Request as Asked}
use Rattle.refusals.specs.Numbers.{answer_of, count_of}
use Rattle.refusals.specs.declared.Refusal.{Refusal}
use Rattle.claims.specs.Cite.{CallOf}
use Rattle.encoded.specs.Encoded.{decoded, request_at, Turned}
use Rattle.encoded.proofs.Made.{made}
use Rattle.encoded.proofs.PartWritten.{row_written, front_kept, behind_kept}

-- any other number is a view
pub decoded_view : (x y z n : ℕ) → (n ≡ 0 → ⊥) → (n ≡ 1 → ⊥) → (n ≡ 2 → ⊥) → (n ≡ 3 → ⊥) → decoded n x y z ≡ view x y z
decoded_view x y z zero p q r s = absurd (p refl)
decoded_view x y z (suc zero) p q r s = absurd (q refl)
decoded_view x y z (suc (suc zero)) p q r s = absurd (r refl)
decoded_view x y z (suc (suc (suc zero))) p q r s = absurd (s refl)
decoded_view x y z (suc (suc (suc (suc n)))) p q r s = refl

-- the call of request n, on its part of the places
pub turned : (b net encoded : List ℕ) (n : ℕ) (lists : List ℕ) (told : Result ℕ Refusal) (after row : List ℕ) (size : ℕ) (q : Asked)
    → request_of q (min (get_or encoded (4 * n + 3) 0) 256) ≡ request_at encoded n
    → 256 * n + 256 ≤ length lists
    → size ≡ min (get_or encoded (4 * n + 3) 0) 256
    → length row ≡ length (take size (drop (256 * n) lists))
    → Left b net (request_of q (length (take size (drop (256 * n) lists)))) (take size (drop (256 * n) lists)) (answer_of told) (count_of told) row after
    → Turned b net encoded n lists (answer_of told) (count_of told) (take (256 * n) lists ++ (row ++ drop size (drop (256 * n) lists))) after
turned b net encoded n lists told after row size q eq room few same l =
    let out : List ℕ = take size (drop (256 * n) lists) in
    let inside : 256 * n ≤ length lists = omega arith in
    let lent : length out ≡ min (get_or encoded (4 * n + 3) 0) 256 = length-take-le size (drop (256 * n) lists) (omega (arith, length-drop (256 * n) lists)) ∙ few in
    let c : CallOf b net (request_at encoded n) (answer_of told) (take (count_of told) row) after = rw (← eq, ← lent) (made b net out q told row after l) in (
      rw (row_written lists row (256 * n) size (count_of told) inside l.front.within (omega arith)) c,
      front_kept lists row (256 * n) size (count_of told) inside l.front.within,
      behind_kept lists row (256 * n) size (count_of told) inside l.front.within same l.front.behind,
    )
