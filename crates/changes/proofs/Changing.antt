-- Requests that change the network, answer by answer.
use Rattle.std.proofs.Common.{ℕ, zero, suc, ◌+◌, ◌<◌, ◌≡◌, refl, true, List, [], ◌∷◌, inl, inr, None, Some, min, max, arith}
use Rattle.std.specs.Prelude.{Option, set}
use Rattle.model.specs.Answers.{Requirement, Answers}
use Rattle.model.specs.Bytes.{bit}
use Rattle.model.specs.Finding.{World as JudgedOn, Finds, Allows}
use Rattle.model.specs.Scheme.{resources}
use Rattle.model.specs.SchemeBytes.{scheme_of}
use Rattle.model.specs.Network.{held, pair_place}
use Rattle.model.specs.Requests.{Request, event, set_policy, next, Defined, answered}
use Rattle.model.specs.Calls.{call_needs, Called}
use Rattle.tables.specs.Schemes.{StateOf}
use Rattle.refusals.specs.Numbers.{number}
use Rattle.refusals.specs.declared.Refusal.{Refusal}
use Rattle.refusals.proofs.Apart.{number_above}
use Rattle.network.specs.Ready.{world_of}
use Rattle.network.specs.Worlds.{world_in, scheme_of_world, held_in}
use Rattle.network.specs.declared.world.World.{World}
use Rattle.opening.specs.Opened.{member_needs, WorldOf}
use Rattle.opening.proofs.Opening.{opened_ready, refusal_stands, later_answers, one_member}
use Rattle.checks.specs.Judged.{judge_needs, defined}

-- a refused one leaves the bytes
refused_unchanged : (b net : List ℕ) (q : Request) (k : ℕ) → 0 < k → Answers (call_needs b net q) k → Called b net (answered q k) net
refused_unchanged b net q zero l a = absurd (omega arith)
refused_unchanged b net q (suc k) l a = record { answered = a; wrote = refl; bytes = refl }

-- the pair's next state
abbrev next_of : List ℕ → List ℕ → ℕ → ℕ → ℕ → ℕ
next_of b net v u a = next (scheme_of b) (held (scheme_of b) net) v u a

-- what set asks beyond 6
abbrev set_later : List ℕ → ℕ → ℕ → List Requirement
set_later b r p = (7, r < resources (scheme_of b)) ∷ (12, bit ((scheme_of b).mask r) p ≡ true) ∷ []

-- what event asks beyond 8, of the next state q
abbrev state_needs : JudgedOn → ℕ → ℕ → ℕ → ℕ → List Requirement
state_needs w v u r q = (9, Finds w v u) ∷ (10, Defined q) ∷ (11, Allows w u r v) ∷ []

-- beyond 6
abbrev event_later : List ℕ → List ℕ → ℕ → ℕ → ℕ → List Requirement
event_later b net v u a = (7, a < (scheme_of b).primitives) ∷ (8, v ≡ u → ⊥) ∷ state_needs (world_of b net) v u (2 + a) (next_of b net v u a)

-- `open` refused
pub set_refused : (b net : List ℕ) (u r p : ℕ) (refusal : Refusal) → Answers (member_needs b net u u) (number refusal)
    → Called b net (answered (set_policy u r p) (number refusal)) net
set_refused b net u r p refusal a =
    refused_unchanged b net (set_policy u r p) (number refusal) (number_above refusal)
    (one_member b net u (set_later b r p) (number refusal) (refusal_stands b net u u (set_later b r p) refusal a))

pub event_refused : (b net : List ℕ) (v u a : ℕ) (refusal : Refusal) → Answers (member_needs b net v u) (number refusal)
    → Called b net (answered (event v u a) (number refusal)) net
event_refused b net v u a refusal x =
    refused_unchanged b net (event v u a) (number refusal) (number_above refusal) (refusal_stands b net v u (event_later b net v u a) refusal x)

-- a state is defined where the table has one
judged_state : (w : JudgedOn) (v u r q : ℕ) (x : Option ℕ) (k : ℕ) → StateOf q x → Answers (judge_needs w v u r (defined x)) k → Answers (state_needs w v u r q) k
judged_state w v u r q (Some y) k s (inl h) = inl h
judged_state w v u r q (Some y) k s (inr (f, inl (n, e))) = absurd (n refl)
judged_state w v u r q (Some y) k s (inr (f, inr (t, h))) = inr (f, inr (rw s.0 at s.1, h))
judged_state w v u r q None k s (inl h) = inl h
judged_state w v u r q None k s (inr (f, inl (n, e))) = inr (f, inl ((λ d. d s), e))
judged_state w v u r q None k s (inr (f, inr (t, h))) = absurd (cc)

-- `open` gave the world, the primitive and the members pass 7 and 8, and x is the next state
module _ {b net : List ℕ} {v u : ℕ} {w : World} (h : WorldOf b net v u w) (a : ℕ) (x : Option ℕ) (z : a < w.scheme.counts.primitives) (d : v ≡ u → ⊥)
    (s : StateOf (next (scheme_of_world w) (held_in w) v u a) x) where
  state : StateOf (next_of b net v u a) x
  state = rw (h.scheme, h.network) at s

  judged : (k : ℕ) → Answers (judge_needs (world_in w) v u (2 + a) (defined x)) k → Answers (call_needs b net (event v u a)) k
  judged k y =
      let r = opened_ready h in
      let j : Answers (judge_needs (world_of b net) v u (2 + a) (defined x)) k = rw (h.scheme, h.network) at y in
      later_answers b net v u (event_later b net v u a) h
      (inr (omega (arith, r.counts.primitives), inr (d, judged_state (world_of b net) v u (2 + a) (next_of b net v u a) x k state j)))

  pub event_judged : (refusal : Refusal) → Answers (judge_needs (world_in w) v u (2 + a) (defined x)) (number refusal)
      → Called b net (answered (event v u a) (number refusal)) net
  event_judged refusal y = refused_unchanged b net (event v u a) (number refusal) (number_above refusal) (judged (number refusal) y)

  pub event_0 : (q place : ℕ) → x ≡ Some q → Answers (judge_needs (world_in w) v u (2 + a) (defined x)) 0
      → place ≡ pair_place (min v u) (max v u)
      → Called b net (answered (event v u a) 0) (set net place q)
  event_0 q place e y p =
      let t : StateOf (next_of b net v u a) (Some q) = rw e at state in
      record { answered = judged 0 y; wrote = refl; bytes = rw (p, t.0) refl }
