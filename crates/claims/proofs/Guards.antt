-- What a caller learns of each function of `requests` and `changes` is the specification, and needs no `requires`.
use Prim.Native.Nat.{ℕ}
use Rattle.std.specs.Prelude.{Result}
use mathlib.Core.Path.{◌≡◌, refl}
use mathlib.Core.List.{List}
use lib.ListN.{length, take}
use contract.Lifetimes.{Lfts}
use Rattle.std.specs.Borrow.{Bor, MutBor}
use denote.Triple.Clauses.{at_exit}
use Rattle.model.specs.Requests.{event, set_policy, find, list, view, answered}
use Rattle.model.specs.Calls.{Called}
use Rattle.refusals.specs.Numbers.{answer_of, count_of}
use Rattle.refusals.specs.declared.Refusal.{Refusal}
use Rattle.requests.specs.Answered.{ListCalled}
use Rattle.requests.specs.contracts.list as list-contract
use Rattle.changes.proofs.event.Reads as event-reads
use Rattle.changes.proofs.set.Reads as set_Reads
use Rattle.requests.proofs.find.Reads as find-reads
use Rattle.requests.proofs.list.Reads as list-reads
use Rattle.requests.proofs.view.Reads as view-reads
use Rattle.claims.specs.FiveCalls.{Changed, Found, Viewed}
use Rattle.claims.specs.Cite.{EventTold, SetTold, FindTold, ViewTold, ListLearnt, CallOf, Granted, Numbered}

-- whatever a caller learns of a result is learnt of its number
pub numbered : {Learnt : Granted → Type 0} (told : Granted) → Learnt told → Numbered Learnt (answer_of told)
numbered told h = (told, refl, h)

module _ (κs : Lfts 2) (scheme : Bor (List ℕ)) (network : MutBor (List ℕ)) where
  -- a caller has nothing to show: no `requires` can make the traces empty
  pub event_asks_nothing : (v u a : ℕ) → event-reads.Asked κs (scheme, (network, (v, (u, (a, tt)))))
  event_asks_nothing v u a = tt

  pub set_asks_nothing : (u r p : ℕ) → set_Reads.Asked κs (scheme, (network, (u, (r, (p, tt)))))
  set_asks_nothing u r p = tt

  -- what is learnt is what the specification says, no less and no more
  pub event_learnt : (v u a k : ℕ) (told : Granted) (after : List ℕ)
      → Changed κs scheme network (λ κs args k exit. event-reads.Learnt κs args told exit) v u a k after
      ≡ Called scheme.now network.now (answered (event v u a) (answer_of told)) after
  event_learnt v u a k told after = refl

  -- and it is what Rattle's own reading of the contract tells every caller
  pub event_told : (v u a k : ℕ) (after : List ℕ)
      → Changed κs scheme network EventTold v u a k after
      ≡ Changed κs scheme network (λ κs args k exit. Numbered (λ told. event-reads.Learnt κs args told exit) k) v u a k after
  event_told v u a k after = refl

  pub set_told : (u r p k : ℕ) (after : List ℕ)
      → Changed κs scheme network SetTold u r p k after
      ≡ Changed κs scheme network (λ κs args k exit. Numbered (λ told. set_Reads.Learnt κs args told exit) k) u r p k after
  set_told u r p k after = refl

  pub set_learnt : (u r p k : ℕ) (told : Granted) (after : List ℕ)
      → Changed κs scheme network (λ κs args k exit. set_Reads.Learnt κs args told exit) u r p k after
      ≡ Called scheme.now network.now (answered (set_policy u r p) (answer_of told)) after
  set_learnt u r p k told after = refl

module _ (κs : Lfts 2) (scheme network : Bor (List ℕ)) where
  pub find_asks_nothing : (v u : ℕ) → find-reads.Asked κs (scheme, (network, (v, (u, tt))))
  find_asks_nothing v u = tt

  pub view_asks_nothing : (v u o : ℕ) → view-reads.Asked κs (scheme, (network, (v, (u, (o, tt)))))
  view_asks_nothing v u o = tt

  pub find_learnt : (v u k : ℕ) (told : Granted) (after : List ℕ)
      → Found κs scheme network (λ κs args k exit. find-reads.Learnt κs args told exit) v u k after
      ≡ ((after ≡ network.now) × Called scheme.now network.now (answered (find v u) (answer_of told)) network.now)
  find_learnt v u k told after = refl

  pub find_told : (v u k : ℕ) (after : List ℕ)
      → Found κs scheme network FindTold v u k after
      ≡ Found κs scheme network (λ κs args k exit. Numbered (λ told. find-reads.Learnt κs args told exit) k) v u k after
  find_told v u k after = refl

  pub view_told : (v u o k : ℕ) (after : List ℕ)
      → Viewed κs scheme network ViewTold v u o k after
      ≡ Viewed κs scheme network (λ κs args k exit. Numbered (λ told. view-reads.Learnt κs args told exit) k) v u o k after
  view_told v u o k after = refl

  pub view_learnt : (v u o k : ℕ) (told : Granted) (after : List ℕ)
      → Viewed κs scheme network (λ κs args k exit. view-reads.Learnt κs args told exit) v u o k after
      ≡ ((after ≡ network.now) × Called scheme.now network.now (answered (view v u o) (answer_of told)) network.now)
  view_learnt v u o k told after = refl

module _ (κs : Lfts 3) (scheme network : Bor (List ℕ)) (output : MutBor (List ℕ)) where
  pub list_asks_nothing : (v u : ℕ) → list-reads.Asked κs (scheme, (network, (v, (u, (output, tt)))))
  list_asks_nothing v u = tt

  pub list_learnt : (v u : ℕ) (told : Result ℕ Refusal) (left after : List ℕ)
      → ListLearnt κs scheme network output v u told left after
      ≡ ((after ≡ network.now) × ListCalled scheme.now network.now v u output.now told left)
  list_learnt v u told left after = refl

  pub list_told : (v u : ℕ) (told : Result ℕ Refusal) (left after : List ℕ)
      → ListLearnt κs scheme network output v u told left after
      ≡ ((after ≡ network.now)
      × list-reads.Learnt κs (scheme, (network, (v, (u, (output, tt))))) told
      (at_exit list-contract.ended κs (scheme, (network, (v, (u, (output, tt))))) (tt, (tt, (tt, (tt, (left, tt)))))))
  list_told v u told left after = refl

  -- whatever a caller learns of a list is such a call
  pub list_heard : (v u : ℕ) (told : Result ℕ Refusal) (left : List ℕ)
      → list-reads.Learnt κs (scheme, (network, (v, (u, (output, tt))))) told
      (at_exit list-contract.ended κs (scheme, (network, (v, (u, (output, tt))))) (tt, (tt, (tt, (tt, (left, tt))))))
      → CallOf scheme.now network.now (list v u (length output.now)) (answer_of told) (take (count_of told) left) network.now
  list_heard v u told left h = (κs, scheme, network, output, told, left, refl, refl, refl, refl, refl, (refl, h))
