-- Suggest, answer by answer.
use Rattle.std.proofs.Common.{ℕ, ◌<◌, ◌≤◌, ◌≡◌, refl, List, [], ◌∷◌, Ok, length, get_or, take, inr, arith}
use native.Mathlib.Decide.{dec_lt}
use Rattle.model.specs.Answers.{Requirement, Answers}
use Rattle.model.specs.Graph.{shared}
use Rattle.model.specs.Suggestions.{Suggestible}
use Rattle.model.specs.Calls.{suggest_call_needs}
use Rattle.model.proofs.Walking.{found_member}
use Rattle.model.proofs.Suggesting.{suggestions_ranked}
use Rattle.network.specs.Ready.{world_of}
use Rattle.network.specs.Worlds.{members_in, world_in}
use Rattle.network.specs.declared.world.World.{World}
use Rattle.opening.specs.Opened.{WorldOf}
use Rattle.opening.proofs.Opening.{opened_ready, later_answers, one_member}
use Rattle.page.specs.Pages.{Filled}
use Rattle.suggestions.specs.Ranks.{RanksBelow}
use Rattle.suggestions.specs.Answered.{SuggestCalled}

-- what suggest asks beyond 6
abbrev suggest_later : ℕ → ℕ → List Requirement
suggest_later c places = (13, c ≤ places) ∷ []

module _ {b net : List ℕ} {v : ℕ} {w : World} (h : WorldOf b net v v w) where
  opened_answers : (c places k : ℕ) → Answers (suggest_later c places) k → Answers (suggest_call_needs b net v c places) k
  opened_answers c places k a = one_member b net v (suggest_later c places) k (later_answers b net v v (suggest_later c places) h a)

  module _ {ranks : List ℕ} (ranked : RanksBelow (world_in w) v (members_in w) ranks) where
    moved : (n : ℕ) → RanksBelow (world_in w) v n ranks → RanksBelow (world_of b net) v n ranks
    moved n r = rw (h.scheme, h.network) at r

    x : RanksBelow (world_of b net) v (members_in w) ranks
    x = moved (members_in w) ranked

    may : (m : ℕ) → 1 ≤ get_or ranks m 0 → Suggestible (world_of b net) v m
    may m l = go (dec_lt m (members_in w))
      where
        go : Dec (m < members_in w) → Suggestible (world_of b net) v m
        go (yes d) = (x.each m d).may l
        go (no d) = absurd (omega (arith, x.none m (omega arith)))

    counted : (m : ℕ) → Suggestible (world_of b net) v m → (m < length ranks) × (get_or ranks m 0 ≡ shared (world_of b net).graph v m)
    counted m g =
        let d = found_member (world_of b net) v m g.found in
        let e = (opened_ready h).counts.members in
        (omega (arith, w.scheme.counts.few_members.1, x.long), (x.each m (omega arith)).counted g)

    pub suggest_0 : {c count : ℕ} {out after : List ℕ} → c ≤ length out → Filled ranks out c (length ranks) count after
        → SuggestCalled b net v c out (Ok count) after
    suggest_0 {c} {count} {out} {after} l f = record {
      answered = opened_answers c (length out) 0 (inr (l, refl));
      wrote = λ z. suggestions_ranked (world_of b net) v c (length ranks) (λ m. get_or ranks m 0) (take count after) (λ m d. may m) counted f.front;
      nothing = λ n. absurd (n refl);
      front = record { within = omega (arith, f.fits, f.long); behind = f.behind };
    }
