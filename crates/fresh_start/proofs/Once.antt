-- Equal inputs leave no two results: how a run starts, and a step.
use Prim.Native.Nat.{ℕ}
use mathlib.Core.Path.{◌≡◌, refl, sym, ◌∙◌, ap}
use mathlib.Core.List.{List, ◌++◌}
use native.Mathlib.Omega.{arith}
use lib.ListN.{take, drop}
use Rattle.model.specs.SchemeBytes.{scheme_of}
use Rattle.model.specs.Network.{fresh}
use Rattle.model.specs.Calls.{FrontOnly}
use Rattle.model.specs.Text.{start, running, over, start_needs}
use Rattle.model.proofs.Answering.{answers_unique}
use Rattle.model.proofs.Held.{laid_once}
use Rattle.model.proofs.Leaving.{filled}
use Rattle.model.proofs.Texts.{step_once}
use Rattle.lines.proofs.Putting.{put_once}
use Rattle.fresh_start.specs.Started.{Started}
use Rattle.fresh_start.specs.Stands.{state_of, OnlyNetwork, Moment, Stepped}
use Rattle.std.specs.Prelude.{Result, Ok, Err}
use Rattle.refusals.specs.Numbers.{number}
use Rattle.refusals.specs.declared.Refusal.{Refusal}
use Rattle.refusals.proofs.Apart.{number_apart, number_above}
use Rattle.fresh_start.specs.declared.Stand.{Stand}
use Rattle.fresh_start.specs.declared.Stand.TheVariants.{Start as AtStart, At, Over}

-- equal fronts of bytes that were otherwise left alone
front_once : {net m n : List ℕ} {c d : ℕ} → take c m ≡ take d n → FrontOnly c net m → FrontOnly d net n → (c ≡ d) × (m ≡ n)
front_once {net} {m} {n} {c} {d} e f g =
    let (i, x) = filled (take d n) f e in
    let (j, y) = filled (take d n) g refl in
    let same : c ≡ d = i ∙ sym j in
    (same, x ∙ ap (λ (k : ℕ). take d n ++ drop k net) same ∙ sym y)

pub started_once : (b log net : List ℕ) (s t : Result ℕ Refusal) (m n : List ℕ) → Started b log net s m → Started b log net t n → (s ≡ t) × (m ≡ n)
started_once b log net (Ok c) (Ok d) m n (_, f, o) (_, g, p) =
    let (e, same) = front_once (laid_once (scheme_of b) (fresh (scheme_of b)) (take c m) (take d n) f g) o p in
    (ap Ok e, same)
started_once b log net (Ok c) (Err y) m n (a, _, _) (r, _) =
    let z : 0 ≡ number y = answers_unique (start_needs b log) 0 (number y) a r in absurd (omega (arith, number_above y))
started_once b log net (Err x) (Ok d) m n (r, _) (a, _, _) =
    let z : 0 ≡ number x = answers_unique (start_needs b log) 0 (number x) a r in absurd (omega (arith, number_above x))
started_once b log net (Err x) (Err y) m n (a, e) (r, f) =
    (ap Err (number_apart x y (answers_unique (start_needs b log) (number x) (number y) a r)), e ∙ sym f)

running_is : {i j p q : ℕ} {m n : List ℕ} → running i p m ≡ running j q n → (i ≡ j) × (p ≡ q) × (m ≡ n)
running_is e = (cc, cc, cc)

not_start : {A : Type 0} {i p : ℕ} {m : List ℕ} → start ≡ running i p m → A
not_start e = let z : ◌≡◌ {A = ℕ} 0 1 = cc in absurd (omega arith)

not_over : {A : Type 0} {i p : ℕ} {m : List ℕ} → over ≡ running i p m → A
not_over e = let z : ◌≡◌ {A = ℕ} 0 1 = cc in absurd (omega arith)

not_both : {A : Type 0} → start ≡ over → A
not_both e = let z : ◌≡◌ {A = ℕ} 0 1 = cc in absurd (omega arith)

-- the state fixes where the program stands and every lent byte
stand_once : (net : List ℕ) (s t : Stand) (m n : List ℕ) → state_of s m ≡ state_of t n → OnlyNetwork s net m → OnlyNetwork t net n → (s ≡ t) × (m ≡ n)
stand_once net AtStart AtStart m n e f g = (refl, f ∙ sym g)
stand_once net AtStart (At j q d) m n e f g = not_start e
stand_once net AtStart Over m n e f g = not_both e
stand_once net (At i p c) AtStart m n e f g = not_start (sym e)
stand_once net (At i p c) (At j q d) m n e f g =
    let (x, y, z) = running_is e in
    let (w, same) = front_once z f g in
    (λ k. At (x k) (y k) (w k), same)
stand_once net (At i p c) Over m n e f g = not_over (sym e)
stand_once net Over AtStart m n e f g = not_both (sym e)
stand_once net Over (At j q d) m n e f g = not_over e
stand_once net Over Over m n e f g = (refl, f ∙ sym g)

-- a step: one place to stand, one network, and one buffer
pub stepped_once : {b log : List ℕ} {from to to' : Moment} → Stepped b log from to → Stepped b log from to' → to ≡ to'
stepped_once {b} {log} {from} {to} {to'} p q =
    let (line, state) = step_once b log (state_of from.stand from.network) (state_of to.stand to.network) (state_of to'.stand to'.network) p.line q.line p.steps q.steps in
    let (u, bytes) = put_once line p.put q.put in
    let (s, same) = stand_once from.network to.stand to'.stand to.network to'.network state p.only q.only in
    λ i. record { stand = s i; network = same i; buffer = bytes i; used = u i }
