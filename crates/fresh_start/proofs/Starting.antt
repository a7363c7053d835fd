-- How a run starts.
use Prim.Native.Nat.{ℕ, ◌+◌, ◌*◌, ◌≤◌}
use mathlib.Core.Path.{◌≡◌, refl, ◌∙◌}
use mathlib.Core.List.{List, [], ◌∷◌, ◌++◌}
use mathlib.Core.Logic.{inr}
use native.Mathlib.Nat.{mul-le-mul}
use native.Mathlib.Omega.{arith}
use lib.ListN.{length, drop, length-append}
use lib.Seq.{take_at, drop_at}
use Rattle.model.specs.Answers.{Requirement, Answers}
use Rattle.model.specs.SchemeBytes.{n, A, I, CountsFit, scheme_of, scheme_needs, Accepted}
use Rattle.model.specs.Network.{pairs, size}
use Rattle.model.specs.Calls.{Fresh, fresh_needs, Freshened}
use Rattle.model.specs.Text.{start_needs}
use Rattle.model.proofs.Answering.{answers_unique, granted_met, behind}
use Rattle.model.proofs.Places.{pairs_mono}
use Rattle.std.specs.Prelude.{Ok}
use Rattle.fresh_start.specs.Started.{Started}

-- the largest network: 256 members, 26 resources
pub largest : (b : List ℕ) → Accepted b → size (scheme_of b) ≤ 39296
largest b a =
    let c : CountsFit b = (granted_met (scheme_needs b) (omega arith) a).1.0 in
    let p : pairs (n b) ≤ 32640 = pairs_mono (n b) 256 c.members.1 in
    let r : 2 + A b + I b ≤ 26 = omega (arith, c.primitives.1, c.items.1) in
    let m : n b * (2 + A b + I b) ≤ 256 * 26 = mul-le-mul c.members.1 r in
    omega (arith, p, m)

module _ (b log : List ℕ) where
  later : List Requirement
  later = (15, length log ≤ 16384) ∷ []

  -- where the scheme is accepted
  past_scheme : {k : ℕ} → Accepted b → Answers later k → Answers (start_needs b log) k
  unfolding later
  past_scheme {k} a p = behind (scheme_needs b) ((15, length log ≤ 16384) ∷ []) k (granted_met (scheme_needs b) (omega arith) a) p

  pub made_fresh : {part after : List ℕ} {count k : ℕ} (net : List ℕ) → Accepted b → length log ≤ 16384 → count ≡ size (scheme_of b) → length part ≡ count
      → Freshened b part k after → length after ≡ count
      → Started b log net (Ok count) (after ++ drop count net)
  unfolding later
  made_fresh {part} {after} {count} {k} net a l e p f m =
      let granted : Answers (fresh_needs b part) 0 = behind (scheme_needs b) ((5, length part ≡ size (scheme_of b)) ∷ []) 0 (granted_met (scheme_needs b) (omega arith) a) (inr (p ∙ e, refl)) in
      let made : Fresh b after = f.made (answers_unique (fresh_needs b part) k 0 f.answered granted) in (
        past_scheme a (inr (l, refl)),
        rw (take_at after (drop count net) count m) made,
        record { within = omega (arith, m, length-append after (drop count net)); behind = drop_at after (drop count net) count m },
      )
