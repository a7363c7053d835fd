-- What `open` answers, for a call that asks more.
use Rattle.std.proofs.Common.{ℕ, ◌<◌, refl, List, [], ◌∷◌, ◌++◌, inl, inr, arith}
use Rattle.model.specs.Answers.{Requirement, Answers}
use Rattle.model.specs.Calls.{open_needs}
use Rattle.model.specs.SchemeBytes.{scheme_of, scheme_needs}
use Rattle.model.specs.Network.{Valid}
use Rattle.model.specs.Requests.{BothMembers}
use Rattle.model.proofs.Answering.{granted_met, behind, ahead}
use Rattle.refusals.specs.Numbers.{number}
use Rattle.refusals.specs.declared.Refusal.{Refusal}
use Rattle.refusals.proofs.Apart.{number_above}
use Rattle.network.specs.Ready.{Ready}
use Rattle.network.specs.declared.world.World.{World}
use Rattle.opening.specs.Opened.{WorldOfBytes, member_needs, WorldOf}

-- what is known of the bytes that were opened
pub opened_ready : {b net : List ℕ} {v u : ℕ} {w : World} → WorldOf b net v u w → Ready b w.scheme.counts net
opened_ready {w = w} h = rw (h.scheme, h.network) at w.ready

-- scheme and network pass
pub begun_granted : {b net : List ℕ} {w : World} → WorldOfBytes b net w → Answers (open_needs b net) 0
begun_granted {b} {net} {w} h =
    let r : Ready b w.scheme.counts net = rw (h.scheme, h.network) at w.ready in
    behind (scheme_needs b) ((5, Valid (scheme_of b) net) ∷ []) 0 (granted_met (scheme_needs b) (omega arith) r.accepted) (inr (r.valid, refl))

module _ (b net : List ℕ) (v u : ℕ) (later : List Requirement) where
  -- a refusal stands, whatever the call asks beyond
  pub refusal_stands : (refusal : Refusal) → Answers (member_needs b net v u) (number refusal) → Answers (member_needs b net v u ++ later) (number refusal)
  refusal_stands refusal a = ahead (member_needs b net v u) later (number refusal) (number_above refusal) a

  -- what is asked beyond answers in an opened world
  pub later_answers : {w : World} {k : ℕ} → WorldOf b net v u w → Answers later k → Answers (member_needs b net v u ++ later) k
  later_answers {w} {k} h a =
      let r = opened_ready h in
      behind (scheme_needs b) ((5, Valid (scheme_of b) net) ∷ (6, BothMembers (scheme_of b) v u) ∷ later) k
      (granted_met (scheme_needs b) (omega arith) r.accepted)
      (inr (r.valid, inr ((omega (arith, h.viewer, r.counts.members), omega (arith, h.other, r.counts.members)), a)))

-- the same number for a condition that says the same
alike : (l m : List Requirement) (n a : ℕ) {P Q : Type 0} → (P → Q) → (Q → P) → Answers (l ++ (n, P) ∷ m) a → Answers (l ++ (n, Q) ∷ m) a
alike [] m n a to from (inl (p, e)) = inl ((λ q. p (from q)), e)
alike [] m n a to from (inr (p, h)) = inr (to p, h)
alike (x ∷ l) m n a to from (inl h) = inl h
alike (x ∷ l) m n a to from (inr (p, h)) = inr (p, alike l m n a to from h)

-- a call that names one member opens with it twice
pub one_member : (b net : List ℕ) (u : ℕ) (later : List Requirement) (k : ℕ)
    → Answers (member_needs b net u u ++ later) k
    → Answers (open_needs b net ++ (6, u < (scheme_of b).members) ∷ later) k
one_member b net u later k = alike (open_needs b net) later 6 k (λ (x, y). x) (λ x. (x, x))
