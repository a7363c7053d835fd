-- What a caller learns of each exported function is the specification, and needs no `requires`.
use Prim.Native.Nat.{ℕ, ◌+◌}
use mathlib.Core.Path.{◌≡◌, refl}
use mathlib.Core.List.{List, []}
use lib.Dec.{eqb}
use lib.ListN.{length, take}
use contract.Lifetimes.{Lfts}
use Rattle.std.specs.Borrow.{Bor, MutBor}
use denote.Triple.Clauses.{at_exit}
use Rattle.model.specs.Answers.{Answers}
use Rattle.model.specs.Bytes.{byte}
use Rattle.model.specs.Network.{held, world}
use Rattle.model.specs.SchemeBytes.{at6, scheme_of, scheme_needs}
use Rattle.model.specs.Requests.{event, set_policy, find, view, granted, answered}
use Rattle.model.specs.Calls.{Called, Freshened, ListAnswered, DegreeAnswered, SuggestAnswered, LengthOf}
use Rattle.model.specs.Questions.{ViewsLeft}
use Rattle.claims.specs.FiveCalls.{Changed, Found, Viewed}
use Rattle.gatekeeper.specs.contracts.gatekeeper_check as check-contract
use Rattle.gatekeeper.specs.contracts.gatekeeper_network_length as length-contract
use Rattle.gatekeeper.specs.contracts.gatekeeper_fresh as fresh-contract
use Rattle.gatekeeper.specs.contracts.gatekeeper_list as list-contract
use Rattle.gatekeeper.specs.contracts.gatekeeper_degree as degree-contract
use Rattle.gatekeeper.specs.contracts.gatekeeper_suggest as suggest-contract
use Rattle.gatekeeper.specs.contracts.gatekeeper_views as views-contract
use Rattle.gatekeeper.proofs.gatekeeper_check.Reads as check-reads
use Rattle.gatekeeper.proofs.gatekeeper_network_length.Reads as length-reads
use Rattle.gatekeeper.proofs.gatekeeper_fresh.Reads as fresh-reads
use Rattle.gatekeeper.proofs.gatekeeper_event.Reads as event-reads
use Rattle.gatekeeper.proofs.gatekeeper_set.Reads as set_Reads
use Rattle.gatekeeper.proofs.gatekeeper_find.Reads as find-reads
use Rattle.gatekeeper.proofs.gatekeeper_list.Reads as list-reads
use Rattle.gatekeeper.proofs.gatekeeper_degree.Reads as degree-reads
use Rattle.gatekeeper.proofs.gatekeeper_suggest.Reads as suggest-reads
use Rattle.gatekeeper.proofs.gatekeeper_view.Reads as view-reads
use Rattle.gatekeeper.proofs.gatekeeper_views.Reads as views-reads
use Rattle.views.specs.Answered.{questions_of}
use Rattle.views.specs.declared.Question.{Question}
use Rattle.exported.specs.Cite.{EventTold, SetTold, FindTold, ViewTold, ListLearnt, ListMade}

-- a caller has nothing to show, and what is learnt is what the specification says, no less and no more
module _ (κs : Lfts 1) (scheme : Bor (List ℕ)) where
  pub check_asks_nothing : check-reads.Asked κs (scheme, tt)
  check_asks_nothing = tt

  pub check_learnt : (k : ℕ) → check-reads.Learnt κs (scheme, tt) k (at_exit check-contract.ended κs (scheme, tt) (tt, tt)) ≡ Answers (scheme_needs scheme.now) k
  check_learnt k = refl

  pub length_asks_nothing : length-reads.Asked κs (scheme, tt)
  length_asks_nothing = tt

  pub length_learnt : (r : ℕ) → length-reads.Learnt κs (scheme, tt) r (at_exit length-contract.ended κs (scheme, tt) (tt, tt)) ≡ LengthOf scheme.now r
  length_learnt r = refl

module _ (κs : Lfts 2) (scheme : Bor (List ℕ)) (network : MutBor (List ℕ)) where
  pub fresh_asks_nothing : fresh-reads.Asked κs (scheme, (network, tt))
  fresh_asks_nothing = tt

  pub fresh_learnt : (k : ℕ) (after : List ℕ)
      → fresh-reads.Learnt κs (scheme, (network, tt)) k (at_exit fresh-contract.ended κs (scheme, (network, tt)) (tt, (after, tt)))
      ≡ Freshened scheme.now network.now k after
  fresh_learnt k after = refl

  pub event_asks_nothing : (v u a : ℕ) → event-reads.Asked κs (scheme, (network, (v, (u, (a, tt)))))
  event_asks_nothing v u a = tt

  pub event_learnt : (v u a k : ℕ) (after : List ℕ)
      → Changed κs scheme network event-reads.Learnt v u a k after ≡ Called scheme.now network.now (answered (event v u a) k) after
  event_learnt v u a k after = refl

  -- and it is what Rattle's own reading of the contract tells every caller
  pub event_told : (v u a k : ℕ) (after : List ℕ) → Changed κs scheme network EventTold v u a k after ≡ Changed κs scheme network event-reads.Learnt v u a k after
  event_told v u a k after = refl

  pub set_told : (u r p k : ℕ) (after : List ℕ) → Changed κs scheme network SetTold u r p k after ≡ Changed κs scheme network set_Reads.Learnt u r p k after
  set_told u r p k after = refl

  pub set_asks_nothing : (u r p : ℕ) → set_Reads.Asked κs (scheme, (network, (u, (r, (p, tt)))))
  set_asks_nothing u r p = tt

  pub set_learnt : (u r p k : ℕ) (after : List ℕ)
      → Changed κs scheme network set_Reads.Learnt u r p k after ≡ Called scheme.now network.now (answered (set_policy u r p) k) after
  set_learnt u r p k after = refl

module _ (κs : Lfts 2) (scheme network : Bor (List ℕ)) where
  pub find_asks_nothing : (v u : ℕ) → find-reads.Asked κs (scheme, (network, (v, (u, tt))))
  find_asks_nothing v u = tt

  pub find_learnt : (v u k : ℕ) (after : List ℕ)
      → Found κs scheme network find-reads.Learnt v u k after
      ≡ ((after ≡ network.now) × Called scheme.now network.now (answered (find v u) k) network.now)
  find_learnt v u k after = refl

  pub find_told : (v u k : ℕ) (after : List ℕ) → Found κs scheme network FindTold v u k after ≡ Found κs scheme network find-reads.Learnt v u k after
  find_told v u k after = refl

  pub view_told : (v u o k : ℕ) (after : List ℕ) → Viewed κs scheme network ViewTold v u o k after ≡ Viewed κs scheme network view-reads.Learnt v u o k after
  view_told v u o k after = refl

  pub view_asks_nothing : (v u o : ℕ) → view-reads.Asked κs (scheme, (network, (v, (u, (o, tt)))))
  view_asks_nothing v u o = tt

  pub view_learnt : (v u o k : ℕ) (after : List ℕ)
      → Viewed κs scheme network view-reads.Learnt v u o k after
      ≡ ((after ≡ network.now) × Called scheme.now network.now (answered (view v u o) k) network.now)
  view_learnt v u o k after = refl

module _ (κs : Lfts 3) (scheme network : Bor (List ℕ)) (degree : MutBor ℕ) where
  pub degree_asks_nothing : (v u : ℕ) → degree-reads.Asked κs (scheme, (network, (v, (u, (degree, tt)))))
  degree_asks_nothing v u = tt

  pub degree_learnt : (v u k told : ℕ)
      → degree-reads.Learnt κs (scheme, (network, (v, (u, (degree, tt))))) k
      (at_exit degree-contract.ended κs (scheme, (network, (v, (u, (degree, tt))))) (tt, (tt, (tt, (tt, (told, tt))))))
      ≡ DegreeAnswered scheme.now network.now v u degree.now k told
  degree_learnt v u k told = refl

module _ (κs : Lfts 4) (scheme network : Bor (List ℕ)) (output : MutBor (List ℕ)) (count : MutBor ℕ) where
  pub list_asks_nothing : (v u : ℕ) → list-reads.Asked κs (scheme, (network, (v, (u, (output, (count, tt))))))
  list_asks_nothing v u = tt

  pub list_learnt : (v u k : ℕ) (left : List ℕ) (counted : ℕ) (after : List ℕ)
      → ListLearnt κs scheme network output count v u k left counted after
      ≡ ((after ≡ network.now) × ListAnswered scheme.now network.now v u output.now count.now k left counted)
  list_learnt v u k left counted after = refl

  pub list_told : (v u k : ℕ) (left : List ℕ) (counted : ℕ) (after : List ℕ)
      → ListLearnt κs scheme network output count v u k left counted after
      ≡ ((after ≡ network.now)
      × list-reads.Learnt κs (scheme, (network, (v, (u, (output, (count, tt)))))) k
      (at_exit list-contract.ended κs (scheme, (network, (v, (u, (output, (count, tt)))))) (tt, (tt, (tt, (tt, (left, (counted, tt))))))))
  list_told v u k left counted after = refl

  -- whatever a caller learns of a list is such a call
  pub list_heard : (v u k : ℕ) (left : List ℕ) (counted : ℕ)
      → list-reads.Learnt κs (scheme, (network, (v, (u, (output, (count, tt)))))) k
      (at_exit list-contract.ended κs (scheme, (network, (v, (u, (output, (count, tt)))))) (tt, (tt, (tt, (tt, (left, (counted, tt)))))))
      → ListMade scheme.now network.now v u (length output.now) k (granted k (take counted left) []) network.now
  list_heard v u k left counted h = (κs, scheme, network, output, count, left, counted, refl, refl, refl, refl, (refl, h))

  pub suggest_asks_nothing : (v c : ℕ) → suggest-reads.Asked κs (scheme, (network, (v, (c, (output, (count, tt))))))
  suggest_asks_nothing v c = tt

  pub suggest_learnt : (v c k : ℕ) (left : List ℕ) (counted : ℕ)
      → suggest-reads.Learnt κs (scheme, (network, (v, (c, (output, (count, tt)))))) k
      (at_exit suggest-contract.ended κs (scheme, (network, (v, (c, (output, (count, tt)))))) (tt, (tt, (tt, (tt, (left, (counted, tt)))))))
      ≡ SuggestAnswered scheme.now network.now v c output.now count.now k left counted
  suggest_learnt v c k left counted = refl

module _ (κs : Lfts 3) (scheme network : Bor (List ℕ)) (questions : MutBor (List Question)) where
  pub views_asks_nothing : views-reads.Asked κs (scheme, (network, (questions, tt)))
  views_asks_nothing = tt

  pub views_learnt : (k : ℕ) (after : List Question)
      → views-reads.Learnt κs (scheme, (network, (questions, tt))) k
      (at_exit views-contract.ended κs (scheme, (network, (questions, tt))) (tt, (tt, (after, tt))))
      ≡ ViewsLeft scheme.now network.now (questions_of questions.now) k (questions_of after)
  views_learnt k after = refl
