-- What is filled into a buffer, step by step.
use Prim.Native.Nat.{ℕ, zero, suc, ◌≤◌}
use mathlib.Core.Path.{◌≡◌, refl, sym, ◌∙◌, ap}
use mathlib.Core.List.{List, [], ◌++◌, append_assoc, append-nil}
use native.Mathlib.Numerals.{add-one}
use native.Mathlib.Omega.{arith}
use lib.ListN.{length, take}
use Rattle.model.specs.Text.{State, start, running, over, Step, Prints}
use Rattle.model.proofs.Texts.{prints_none, prints_more, prints_text, text_once, text_over}
use Rattle.fresh_start.specs.Stands.{state_of, Sized, OnlyNetwork, Moment}
use Rattle.fresh_start.specs.declared.Stand.{Stand}
use Rattle.fresh_start.specs.declared.Stand.TheVariants.{Start, At, Over}
use Rattle.replay.specs.Fills.{Goes, Steps, Continued}

module _ (b log : List ℕ) where
  -- no step leads back to the start
  never_back : (s : State) (line : List ℕ) → Step b log s line start → ⊥
  never_back start line p = p
  never_back (running place position net) line p = p
  never_back over line p = p

  -- after a step the lent bytes have room for the network
  stepped_sized : (s : State) (line net : List ℕ) (to : Stand) (net' : List ℕ) → Step b log s line (state_of to net') → OnlyNetwork to net net' → Sized to (length net')
  stepped_sized s line net Start net' p o = absurd (never_back s line p)
  stepped_sized s line net (At place position count) net' p o = o.within
  stepped_sized s line net Over net' p o = tt

  -- the text of so many steps stands behind what was used
  pub record Reached (count : ℕ) (from m : Moment) : Type 0 where
    pub text : List ℕ
    pub prints : Prints b log count (state_of from.stand from.network) text (state_of m.stand m.network)
    pub front : take m.used m.buffer ≡ take from.used from.buffer ++ text
    pub fits : from.used ≤ length from.buffer → m.used ≤ length m.buffer
    pub long : length m.buffer ≡ length from.buffer
    pub sized : Sized from.stand (length from.network) → Sized m.stand (length m.network)

  pub reached : (count : ℕ) (from m : Moment) → Steps b log count from m → Reached count from m
  reached zero from m e =
      let none : Reached 0 from from = record { text = []; prints = prints_none b log (state_of from.stand from.network); front = sym (append-nil (take from.used from.buffer)); fits = λ h. h; long = refl; sized = λ h. h } in
      rw (← e) none
  reached (suc k) from m (at, s, _, one) =
      let r : Reached k from at = reached k from at s in
      let start : State = state_of from.stand from.network in
      let here : State = state_of at.stand at.network in
      let there : State = state_of m.stand m.network in
      record {
        text = r.text ++ one.line;
        prints = rw (add-one k) at (prints_more b log k start here there r.text one.line r.prints one.steps);
        front = one.put.front ∙ ap (λ (l : List ℕ). l ++ one.line) r.front ∙ append_assoc (take from.used from.buffer) r.text one.line;
        fits = λ _. omega (arith, one.put.fits, one.put.long);
        long = one.put.long ∙ r.long;
        sized = λ h. stepped_sized here one.line at.network m.stand m.network one.steps one.only;
      }

  -- where the program goes on, a step is made
  pub moved : (k : ℕ) (m n : Moment) → Steps b log k m n → (Goes n → ⊥) → Goes m → 1 ≤ k
  moved zero m n e h g = absurd (h (rw e at g))
  moved (suc k) m n s h g = omega arith

pub continued : Continued
continued b log from to text rest f t r =
    let g = reached b log f.count from to f.steps in
    let used = take from.used from.buffer in
    let prints = prints_text b log f.count (state_of from.stand from.network) (state_of to.stand to.network) g.text rest g.prints r in
    let whole : text ≡ g.text ++ rest = text_once b log (state_of from.stand from.network) text (g.text ++ rest) t prints in (
      ap (λ (l : List ℕ). used ++ l) whole ∙ sym (append_assoc used g.text rest) ∙ ap (λ (l : List ℕ). l ++ rest) (sym g.front),
      λ e. text_over b log rest (rw e at r),
    )
