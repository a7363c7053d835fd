-- The steps of the fills, and the fresh network that they leave.
use Prim.Native.Nat.{ℕ, ◌+◌, ◌*◌, ◌<◌, ◌≤◌}
use mathlib.Core.List.{List, [], ◌∷◌, ◌++◌}
use mathlib.Core.Logic.{inr}
use mathlib.Core.Path.{◌≡◌, refl, ◌∙◌}
use native.Mathlib.Omega.{arith}
use borrow.Author.Count.{below_more}
use borrow.Author.Rules.{rules}
use borrow.Rule.Slice.PartMut.{put_mid}
use lib.Arith.{digits_lt}
use lib.ListN.{length, take, drop}
use Rattle.std.specs.Prelude.{replicate}
use Rattle.std.proofs.lemmas.List.{places}
use Rattle.model.specs.Answers.{Requirement}
use Rattle.model.specs.Bytes.{byte}
use Rattle.model.specs.Calls.{Fresh, Freshened}
use Rattle.model.specs.Network.{pairs, pair_place, size}
use Rattle.model.specs.Scheme.{Scheme, lowest}
use Rattle.model.specs.SchemeBytes.{scheme_of, scheme_needs, Accepted}
use Rattle.model.proofs.Answering.{granted_met, behind}
use Rattle.model.proofs.Places.{pair_before}
use Rattle.tables.specs.Read.{CountsOf}
use Rattle.tables.specs.declared.counts.Summary.{Summary}
use Rattle.fresh.specs.Fill.{MemberFresh, AllFilled}

pub all_none : (s : Scheme) (net : List ℕ) (from resources : ℕ) → AllFilled s net from 0 resources net
all_none s net from resources = record { long = refl; settings = λ m r h l. absurd (omega arith); below = λ k h. refl }

-- one member's settings more
pub all_more : {s : Scheme} {old net : List ℕ} {from m resources : ℕ} (settings : List ℕ) (at many : ℕ) → AllFilled s old from m resources net
    → MemberFresh s settings
    → length settings ≡ resources
    → many ≡ resources
    → at ≡ from + m * resources
    → at + resources ≤ length net
    → AllFilled s old from (m + 1) resources (put_mid at many net settings)
all_more {s} {old} {net} {from} {m} {resources} settings at many g f n e p l = record {
  long = long ∙ g.long;
  settings = λ j r h a.
      below_more (λ (i : ℕ). (r : ℕ) → r < resources → byte new (from + (i * resources + r)) ≡ lowest (s.mask r)) m
      (λ i d r a.
      let z : i * resources + r < m * resources = digits_lt d a in
      under (from + (i * resources + r)) (omega arith) ∙ g.settings i r d a)
      (λ r a.
      let q : from + (m * resources + r) ≡ at + r = omega arith in
      rw q (within r (omega arith) ∙ f r (omega arith)))
      j h r a;
  below = λ k a. under k (omega arith) ∙ g.below k a;
}
  where
    new : List ℕ
    new = put_mid at many net settings

    long : length new ≡ length net
    long = search (rules, places)

    under : (k : ℕ) → k < at → byte new k ≡ byte net k
    under k a = search (rules, places)

    within : (r : ℕ) → r < length settings → byte new (at + r) ≡ byte settings r
    within r a = search (rules, places)

-- the pairs are cleared, and the rest is as it was
pub cleared : (net zeros : List ℕ) (from : ℕ) → zeros ≡ replicate (length (take from net)) 0 → from ≤ length net
    → (length (zeros ++ drop from net) ≡ length net) × ((k : ℕ) → k < from → byte (zeros ++ drop from net) k ≡ 0)
cleared net zeros from e l =
    let n : length (take from net) ≡ from = search (rules, places) in
    rw (e, n) (search (rules, places), λ k a. search (rules, places))

-- all pairs cleared and all settings filled is the fresh network
pub laid : (b net zeroed : List ℕ) {after : List ℕ} {c : Summary} {from : ℕ} → CountsOf b c → from ≡ pairs c.members → length net ≡ size (scheme_of b)
    → length zeroed ≡ length net
    → ((k : ℕ) → k < from → byte zeroed k ≡ 0)
    → AllFilled (scheme_of b) zeroed from c.members (2 + c.primitives + c.items) after
    → Fresh b after
laid b net zeroed {after} {c} {from} k f l n z a = record {
  sized = a.long ∙ n ∙ l;
  states = λ i j u v.
      let p : pair_place i j < from = rw (f, k.members) (pair_before i j (scheme_of b).members u v) in
      a.below (pair_place i j) p ∙ z (pair_place i j) p;
  settings = λ m r u v. rw (f, k.members, k.primitives, k.items) at (a.settings m r (omega arith) (omega arith));
}

-- the one requirement behind the scheme check
abbrev size_need : List ℕ → List ℕ → List Requirement
size_need b net = (5, length net ≡ size (scheme_of b)) ∷ []

module _ (b net : List ℕ) where
  pub fresh_made : {after : List ℕ} → Accepted b → length net ≡ size (scheme_of b) → Fresh b after → Freshened b net 0 after
  fresh_made a l f = record {
    answered = behind (scheme_needs b) (size_need b net) 0 (granted_met (scheme_needs b) (omega arith) a) (inr (l, refl));
    made = λ e. f;
    kept = λ n. absurd (n refl);
  }
