-- Requests that leave the network as it was, answer by answer.
use Rattle.std.proofs.Common.{ℕ, zero, suc, ◌+◌, ◌<◌, ◌≤◌, ◌≡◌, refl, sym, ap, ◌∙◌, true, List, [], ◌∷◌, inl, inr, length, take, arith}
use Rattle.model.specs.Answers.{Requirement, Answers}
use Rattle.model.specs.Finding.{Finds, Allows}
use Rattle.model.specs.Graph.{Graph}
use Rattle.model.specs.SchemeBytes.{scheme_of}
use Rattle.model.specs.Network.{held}
use Rattle.model.specs.Requests.{Request, find, view, list, writes, answered, those}
use Rattle.model.specs.Calls.{call_needs, puts, Called, FrontOnly, Left}
use Rattle.refusals.specs.Numbers.{number}
use Rattle.refusals.specs.declared.Refusal.{Refusal}
use Rattle.refusals.proofs.Apart.{number_above}
use Rattle.network.specs.Ready.{world_of, graph_of}
use Rattle.network.specs.Worlds.{members_in, world_in, graph_in}
use Rattle.network.specs.declared.world.World.{World}
use Rattle.opening.specs.Opened.{member_needs, WorldOf}
use Rattle.opening.proofs.Opening.{opened_ready, refusal_stands, later_answers}
use Rattle.checks.specs.Judged.{judge_needs}
use Rattle.checks.proofs.Judging.{past_10}

-- one that asks without writing leaves the bytes, whatever the answer
asked_unchanged : (b net : List ℕ) (q : Request) (k : ℕ) → writes (scheme_of b) (held (scheme_of b) net) q ≡ [] → puts (scheme_of b) net q ≡ net
    → Answers (call_needs b net q) k
    → Called b net (answered q k) net
asked_unchanged b net q zero w p a = record { answered = a; wrote = sym w; bytes = sym p }
asked_unchanged b net q (suc k) w p a = record { answered = a; wrote = refl; bytes = refl }

-- a list that is refused leaves the output too
nothing_listed : (b net : List ℕ) (v u : ℕ) (out : List ℕ) (k : ℕ) → 0 < k → Answers (call_needs b net (list v u (length out))) k
    → Left b net (list v u (length out)) out k 0 out net
nothing_listed b net v u out zero l a = absurd (omega arith)
nothing_listed b net v u out (suc k) l a = record {
  called = record { answered = a; wrote = refl; bytes = refl };
  front = record { within = omega arith; behind = refl };
}

-- what each asks beyond 6
abbrev find_later : List ℕ → List ℕ → ℕ → ℕ → List Requirement
find_later b net v u = (9, Finds (world_of b net) v u) ∷ []

abbrev view_later : List ℕ → List ℕ → ℕ → ℕ → ℕ → List Requirement
view_later b net v u o =
    (7, o < (scheme_of b).items) ∷ (9, Finds (world_of b net) v u) ∷ (11, Allows (world_of b net) u (2 + (scheme_of b).primitives + o) v) ∷ []

abbrev list_later : List ℕ → List ℕ → ℕ → ℕ → ℕ → List Requirement
list_later b net v u places =
    (13, (scheme_of b).members ≤ places) ∷ (9, Finds (world_of b net) v u) ∷ (11, Allows (world_of b net) u 1 v) ∷ []

-- `open` refused
module _ (b net : List ℕ) (v u : ℕ) (refusal : Refusal) (a : Answers (member_needs b net v u) (number refusal)) where
  pub find_refused : Called b net (answered (find v u) (number refusal)) net
  find_refused = asked_unchanged b net (find v u) (number refusal) refl refl (refusal_stands b net v u (find_later b net v u) refusal a)

  pub view_refused : (o : ℕ) → Called b net (answered (view v u o) (number refusal)) net
  view_refused o = asked_unchanged b net (view v u o) (number refusal) refl refl (refusal_stands b net v u (view_later b net v u o) refusal a)

  pub list_refused : (out : List ℕ) → Left b net (list v u (length out)) out (number refusal) 0 out net
  list_refused out = nothing_listed b net v u out (number refusal) (number_above refusal) (refusal_stands b net v u (list_later b net v u (length out)) refusal a)

-- `open` gave the world
module _ {b net : List ℕ} {v u : ℕ} {w : World} (h : WorldOf b net v u w) where
  find_answer : (k : ℕ) → Answers (find_later b net v u) k → Called b net (answered (find v u) k) net
  find_answer k a = asked_unchanged b net (find v u) k refl refl (later_answers b net v u (find_later b net v u) h a)

  pub find_9 : (Finds (world_in w) v u → ⊥) → Called b net (answered (find v u) 9) net
  find_9 n = find_answer 9 (inl (rw (h.scheme, h.network) at n, refl))

  pub find_0 : Finds (world_in w) v u → Called b net (answered (find v u) 0) net
  find_0 f = find_answer 0 (inr (rw (h.scheme, h.network) at f, refl))

  pub view_judged : (o k : ℕ) → o < w.scheme.counts.items → Answers (judge_needs (world_in w) v u (2 + w.scheme.counts.primitives + o) true) k
      → Called b net (answered (view v u o) k) net
  view_judged o k l a =
      let r = opened_ready h in
      let j : Answers (judge_needs (world_of b net) v u (2 + w.scheme.counts.primitives + o) true) k = rw (h.scheme, h.network) at a in
      let p = rw r.counts.primitives at (past_10 (world_of b net) v u (2 + w.scheme.counts.primitives + o) k j) in
      asked_unchanged b net (view v u o) k refl refl (later_answers b net v u (view_later b net v u o) h (inr (omega (arith, r.counts.items), p)))

  module _ (out : List ℕ) (l : members_in w ≤ length out) where
    list_answer : (k : ℕ) → Answers (judge_needs (world_in w) v u 1 true) k → Answers (call_needs b net (list v u (length out))) k
    list_answer k a =
        let r = opened_ready h in
        let j : Answers (judge_needs (world_of b net) v u 1 true) k = rw (h.scheme, h.network) at a in
        later_answers b net v u (list_later b net v u (length out)) h (inr (omega (arith, r.counts.members), past_10 (world_of b net) v u 1 k j))

    pub list_judged : (refusal : Refusal) → Answers (judge_needs (world_in w) v u 1 true) (number refusal)
        → Left b net (list v u (length out)) out (number refusal) 0 out net
    list_judged refusal a = nothing_listed b net v u out (number refusal) (number_above refusal) (list_answer (number refusal) a)

    pub list_0 : {count : ℕ} {after : List ℕ} → Answers (judge_needs (world_in w) v u 1 true) 0
        → (take count after ≡ those ((graph_in w).friends u) (members_in w)) × FrontOnly count out after
        → Left b net (list v u (length out)) out 0 count after net
    list_0 a (t, f) =
        let r = opened_ready h in
        let g : graph_in w ≡ graph_of b net = rw (h.scheme, h.network) (refl {a = graph_of b net}) in
        record {
          called = record {
            answered = list_answer 0 a;
            wrote = t ∙ ap (λ (g : Graph). those (g.friends u) (members_in w)) g ∙ ap (those ((graph_of b net).friends u)) r.counts.members;
            bytes = refl;
          };
          front = f;
        }
