-- The two lists, played.
use Prim.Native.Nat.{ℕ}
use mathlib.Core.Path.{◌≡◌, refl}
use mathlib.Core.Bool.{true}
use mathlib.Core.List.{List, [], ◌∷◌}
use mathlib.Core.Logic.{◌⊎◌, inl, inr}
use native.Mathlib.Omega.{arith}
use Rattle.model.specs.Answers.{Answers}
use Rattle.model.specs.Graph.{count}
use Rattle.model.specs.Finding.{Finds}
use Rattle.model.specs.Scheme.{Scheme, lowest_from}
use Rattle.model.specs.SchemeBytes.{policies, Accepted}
use Rattle.model.specs.Network.{Maps, fresh, held, world}
use Rattle.model.specs.Requests.{view, view_needs, those, put, Turn}
use Rattle.model.specs.Calls.{Called}
use Rattle.model.specs.Machine.{Runs, after_all, requests}
use Rattle.model.specs.TwoLists.{Changed, Similar, Viewed, Alike, OthersSame}
use Rattle.model.specs.Traces.{Call, Happens, trace_of}
use Rattle.model.specs.Claims.{FromFresh, FromValid}
use Rattle.model.specs.Standard.{standard_bytes}
use Rattle.model.specs.Session.{line, session}
use Rattle.model.specs.Examples.{fresh_bytes}
use Rattle.model.specs.HiddenRecipe.{scheme, shown, hidden, at_views, leaves, HiddenRecipe}
use Rattle.model.proofs.Computing.{some, every, among, is_within, friend_of_all, all_friends, some_list, is_clique, on_side, admits, stands, begins, goes, reached, closed, found, sure, finds, allows, first, turn}
use Rattle.model.proofs.Exemplified.{layout}
use Rattle.model.proofs.Tracing.{fresh_start, traced, items_unseen}
use Rattle.model.proofs.Playing.{play, all_sure, plays, sixteen_lines}
use Rattle.model.proofs.Happening.{runs_happen}

runs : (s : Maps) (ts : List Turn) → play scheme s (requests ts) ≡ ts → all_sure scheme s (requests ts) ≡ true → Runs scheme s ts
runs s ts e f = rw e at (plays scheme s (requests ts) f)

shown_runs : Runs scheme (fresh scheme) shown
unfolding play all_sure some every among is_within friend_of_all all_friends some_list is_clique on_side admits stands begins goes reached closed found sure finds allows first turn count lowest_from those put policies
shown_runs = runs (fresh scheme) shown refl refl

hidden_runs : Runs scheme (fresh scheme) hidden
unfolding play all_sure some every among is_within friend_of_all all_friends some_list is_clique on_side admits stands begins goes reached closed found sure finds allows first turn count lowest_from those put policies
hidden_runs = runs (fresh scheme) hidden refl refl

next_runs : Runs scheme (after_all scheme (fresh scheme) shown) (line (view 1 0 1) 0 [] ∷ [])
unfolding play all_sure some every among is_within friend_of_all all_friends some_list is_clique on_side admits stands begins goes reached closed found sure finds allows first turn count lowest_from those put policies
next_runs = runs (after_all scheme (fresh scheme) shown) (line (view 1 0 1) 0 [] ∷ []) refl refl

similar : Similar scheme 0 shown hidden
similar = (
  inl refl,
  (
    inl refl,
    (
      inl refl,
      (
        inl refl,
        (
          inr (7, 2, 0, (omega arith, omega arith), (λ e. omega arith), refl, refl),
          (inl refl, (inl refl, (inr (7, 4, 12, (omega arith, omega arith), (λ e. omega arith), refl, refl), tt))),
        ),
      ),
    ),
  ),
)

accepted : Accepted (standard_bytes 4)
accepted = sixteen_lines.1

starts_fresh : FromFresh (standard_bytes 4) fresh_bytes (fresh scheme)
starts_fresh = (layout.fresh, refl)

starts_valid : FromValid (standard_bytes 4) fresh_bytes (fresh scheme)
starts_valid = fresh_start (standard_bytes 4) fresh_bytes (fresh scheme) accepted starts_fresh

-- the answers 0 and 11 are not equal and a view is no set: what is left is that it is viewed
viewed : ◌≡◌ {A = ℕ} 0 11 ⊎ (Changed scheme 0 (view 1 0 1) (view 1 0 1) ⊎ Viewed scheme 0 at_views (view 1 0 1)) → Viewed scheme 0 at_views (view 1 0 1)
viewed (inl e) = absurd (omega arith)
viewed (inr (inl (r, p, p', i, n, e, e'))) = let z : ◌≡◌ {A = ℕ} 0 1 = cc in absurd (omega arith)
viewed (inr (inr w)) = w

-- an answer 9 says that it is not found
not_found : (c : Scheme) (s : Maps) (v u o : ℕ) → Answers (view_needs c (world c s) v u o) 9 → Finds (world c s) v u → ⊥
not_found c s v u o (inl (n, e)) f = omega arith
not_found c s v u o (inr (m, inl (n, e))) f = omega arith
not_found c s v u o (inr (m, inr (k, inl (n, e)))) f = n f
not_found c s v u o (inr (m, inr (k, inr (x, inl (n, e))))) f = omega arith
not_found c s v u o (inr (m, inr (k, inr (x, inr (a, e))))) f = omega arith

-- calls that may be whatever `Called` says, and no more
module _ (Calls : Call) (sound : (b net : List ℕ) (t : Turn) (after : List ℕ) → Calls b net t after → Called b net t after) (complete : (b net : List ℕ) (t : Turn) (after : List ℕ) → Called b net t after → Calls b net t after) where
  happens : (ts : List Turn) → Runs scheme (fresh scheme) ts → Happens Calls (standard_bytes 4) fresh_bytes (trace_of scheme fresh_bytes ts)
  happens ts r = runs_happen Calls complete (standard_bytes 4) accepted fresh_bytes (fresh scheme) starts_valid ts r

  told : Alike scheme 0 (fresh scheme) shown hidden × OthersSame scheme 0 (leaves shown) (leaves hidden)
  told =
      items_unseen Calls sound FromFresh fresh_start (standard_bytes 4) 0 fresh_bytes fresh_bytes (fresh scheme) (trace_of scheme fresh_bytes shown) (trace_of scheme fresh_bytes hidden)
      accepted starts_fresh starts_fresh (happens shown shown_runs) (happens hidden hidden_runs) similar

  then_valid : FromValid (standard_bytes 4) (leaves shown) (after_all scheme (fresh scheme) shown)
  then_valid = (traced Calls sound (standard_bytes 4) accepted fresh_bytes (fresh scheme) starts_valid (trace_of scheme fresh_bytes shown) (happens shown shown_runs)).1

  pub hidden_recipe : HiddenRecipe Calls
  unfolding held
  hidden_recipe = record {
    accepted = accepted;
    starts_fresh = starts_fresh;
    session_happens = happens session sixteen_lines.2;
    shown_happens = happens shown shown_runs;
    hidden_happens = happens hidden hidden_runs;
    similar = similar;
    starts_valid = then_valid;
    next_happens = runs_happen Calls complete (standard_bytes 4) accepted (leaves shown) (after_all scheme (fresh scheme) shown) then_valid (line (view 1 0 1) 0 [] ∷ []) next_runs;
    alike = told.0;
    others_same = told.1;
    recipe_shown = refl;
    recipe_hidden = refl;
    may_differ = viewed told.0.2.2.2.2.2.0;
    not_by_two = λ (v, o, m, b, e, f). let x : v ≡ 2 = cc in not_found scheme at_views 2 0 1 shown_runs.1.1.1.1.1.1.0.answered (rw x at f);
    not_another's = λ v u o n (w, p, m, b, e, f). n cc;
    not_by_none = λ o (w, p, m, b, e, f). let x : w ≡ 4 = cc in omega arith;
  }

pub called_hidden_recipe : HiddenRecipe Called
called_hidden_recipe = hidden_recipe Called (λ b net t after k. k) (λ b net t after k. k)
