-- What the log program prints: one text for two files, and parts of it put together.
use Prim.Native.Nat.{ℕ, zero, suc, ◌+◌, ◌≤◌, ◌<◌}
use mathlib.Core.Path.{◌≡◌, refl, sym, ◌∙◌, ap}
use mathlib.Core.List.{List, [], ◌∷◌, ◌++◌, append_assoc, append-nil}
use mathlib.Core.Logic.{◌⊎◌, inl, inr}
use native.Mathlib.Nat.{zero-add, suc-add}
use native.Mathlib.Omega.{arith}
use lib.ListN.{length, length-append}
use Rattle.model.specs.Answers.{Requirement, Answers}
use Rattle.model.specs.SchemeBytes.{scheme_of, scheme_needs, Accepted, longest_scheme}
use Rattle.model.specs.Network.{fresh}
use Rattle.model.specs.Requests.{Request, Turn}
use Rattle.model.specs.Log.{ended, refused, request, place_after}
use Rattle.model.specs.Text.{line_of, State, start, running, over, start_needs, places, Step, Prints, TextFrom, Text, ReadOf}
use Rattle.model.proofs.Answering.{answers_unique, Numbered, AllMet, granted_met, met_granted, behind, ahead}
use Rattle.model.proofs.Held.{laid_once}
use Rattle.model.proofs.Once.{called_once}
use Rattle.model.proofs.Logging.{within, next_once}
use Rattle.model.proofs.Overlong.{overlong, fits}

pub request_is : {q q' : Request} → request q ≡ request q' → q ≡ q'
request_is e = cc

pub never : {A : Type 0} {q : Request} {number : ℕ} → request q ≡ refused number → A
never e = let z : ◌≡◌ {A = ℕ} 0 1 = cc in absurd (omega arith)

pub not_ended : {A : Type 0} {q : Request} → request q ≡ ended → A
not_ended e = let z : ◌≡◌ {A = ℕ} 0 1 = cc in absurd (omega arith)

pub not_both : {A : Type 0} {number : ℕ} → refused number ≡ ended → A
not_both e = let z : ◌≡◌ {A = ℕ} 0 1 = cc in absurd (omega arith)

module _ (b log : List ℕ) where
  -- a state has one step
  pub step_once : (s t u : State) (l m : List ℕ) → Step b log s l t → Step b log s m u → (l ≡ m) × (t ≡ u)
  step_once start start u l m p q = absurd p
  step_once start (running i n net) start l m p q = absurd q
  step_once start (running i n net) (running j k net') l m (_, e, i0, n1, f) (_, e', j0, k1, f') =
      let same : net ≡ net' = laid_once (scheme_of b) (fresh (scheme_of b)) net net' f f' in
      (e ∙ sym e', λ x. running ((i0 ∙ sym j0) x) ((n1 ∙ sym k1) x) (same x))
  step_once start (running i n net) over l m p (k, a, above, _) =
      let z : 0 ≡ k = answers_unique (start_needs b log) 0 k p.0 a in absurd (omega arith)
  step_once start over start l m p q = absurd q
  step_once start over (running i n net) l m (k, a, above, _) q =
      let z : 0 ≡ k = answers_unique (start_needs b log) 0 k q.0 a in absurd (omega arith)
  step_once start over over l m (k, a, _, e) (k', a', _, e') =
      (e ∙ ap (λ (x : ℕ). line_of 0 x []) (answers_unique (start_needs b log) k k' a a') ∙ sym e', refl)
  step_once (running i n net) start u l m p q = absurd p
  step_once (running i n net) (running j k net') start l m p q = absurd q
  step_once (running i n net) (running j k net') (running j' k' net'') l m (t, at, c, e, f, g) (t', at', c', e', f', g') =
      let q : t.request ≡ t'.request = request_is (next_once log places i (request t.request) (request t'.request) at at') in
      let (same, x) = called_once b net t t' net' net'' c c' q in
      let p : j ≡ j' = f ∙ ap (λ (r : Request). place_after log i (request r)) q ∙ sym f' in (
        e ∙ ap (λ (z : Turn). line_of n z.answer z.written) same ∙ sym e',
        λ y. running (p y) ((g ∙ sym g') y) (x y),
      )
  step_once (running i n net) (running j k net') over l m p (inl (r, _)) = never (next_once log places i (request p.0.request) (refused 14) p.1 r)
  step_once (running i n net) (running j k net') over l m p (inr (r, _)) = not_ended (next_once log places i (request p.0.request) ended p.1 r)
  step_once (running i n net) over start l m p q = absurd q
  step_once (running i n net) over (running j k net') l m (inl (r, _)) q = never (next_once log places i (request q.0.request) (refused 14) q.1 r)
  step_once (running i n net) over (running j k net') l m (inr (r, _)) q = not_ended (next_once log places i (request q.0.request) ended q.1 r)
  step_once (running i n net) over over l m (inl (_, e)) (inl (_, e')) = (e ∙ sym e', refl)
  step_once (running i n net) over over l m (inl (r, _)) (inr (r', _)) = not_both (next_once log places i (refused 14) ended r r')
  step_once (running i n net) over over l m (inr (r', _)) (inl (r, _)) = not_both (next_once log places i (refused 14) ended r r')
  step_once (running i n net) over over l m (inr (_, e)) (inr (_, e')) = (e ∙ sym e', refl)
  step_once over t u l m p q = absurd p

  -- the end has no step
  at_end : (s t : State) (l : List ℕ) → over ≡ s → Step b log s l t → ⊥
  at_end s t l e p = rw (sym e) at p

  -- a state has one text
  pub text_once : (s : State) (x y : List ℕ) → TextFrom b log s x → TextFrom b log s y → x ≡ y
  text_once s x y (j, p) (k, q) = go j k s x y p q
    where
      go : (j k : ℕ) (s : State) (x y : List ℕ) → Prints b log j s x over → Prints b log k s y over → x ≡ y
      go zero zero s x y (e, _) (f, _) = e ∙ sym f
      go zero (suc k) s x y (e, g) (line, m, rest, one, f, q) = absurd (at_end s m line (sym g) one)
      go (suc j) zero s x y (line, m, rest, one, e, p) (f, g) = absurd (at_end s m line (sym g) one)
      go (suc j) (suc k) s x y (line, m, rest, one, e, p) (line', m', rest', one', f, q) =
          let (l, t) = step_once s m m' line line' one one' in
          let z : rest ≡ rest' = go j k m rest rest' p (rw t q) in
          e ∙ ap (λ (r : List ℕ). r ++ rest) l ∙ ap (λ (r : List ℕ). line' ++ r) z ∙ sym f

  pub prints_none : (s : State) → Prints b log 0 s [] s
  prints_none s = (refl, refl)

  pub prints_then : (j k : ℕ) (s t u : State) (x y : List ℕ) → Prints b log j s x t → Prints b log k t y u → Prints b log (j + k) s (x ++ y) u
  prints_then zero k s t u x y (e, f) q = rw (zero-add k, e, f) q
  prints_then (suc j) k s t u x y (line, m, rest, one, e, p) q =
      rw (suc-add j k) (line, m, rest ++ y, one, ap (λ (r : List ℕ). r ++ y) e ∙ append_assoc line rest y, prints_then j k m t u rest y p q)

  prints_one : (s t : State) (line : List ℕ) → Step b log s line t → Prints b log 1 s line t
  prints_one s t line h = (line, t, [], h, sym (append-nil line), (refl, refl))

  pub prints_more : (k : ℕ) (s t u : State) (text line : List ℕ) → Prints b log k s text t → Step b log t line u → Prints b log (k + 1) s (text ++ line) u
  prints_more k s t u text line p h = prints_then k 1 s t u text line p (prints_one t u line h)

  -- what was printed and the text from where it stands are the text from where it stood
  pub prints_text : (k : ℕ) (s t : State) (x y : List ℕ) → Prints b log k s x t → TextFrom b log t y → TextFrom b log s (x ++ y)
  prints_text k s t x y p (j, q) = (k + j, prints_then k j s t over x y p q)

  -- at the end nothing is left
  pub text_over : (text : List ℕ) → TextFrom b log over text → text ≡ []
  text_over text (zero, (e, _)) = e
  text_over text (suc k, p) = absurd p.3

  -- 16,384 bytes bound the place, and the place bounds the position
  abbrev pub Bounded : State → Type 0
  Bounded start = Unit {0}
  Bounded (running place position net) = (length log ≤ 16384) × (place ≤ length log) × (position ≤ place + 1)
  Bounded over = Unit {0}

  step_bounded : (s t : State) (l : List ℕ) → Bounded s → Step b log s l t → Bounded t
  step_bounded start start l h p = absurd p
  step_bounded start (running i n net) l h (a, _, i0, n1, _) =
      let m = granted_met (start_needs b log) (omega arith) a in
      (m.1.1.1.1.1.0, omega arith, omega arith)
  step_bounded start over l h p = tt
  step_bounded (running i n net) start l h p = absurd p
  step_bounded (running i n net) (running j k net') l (m, h, g) (t, at, _, _, e, f) =
      let (x, y) = within log places i t.request at.1 in
      (m, omega (arith, y, e), omega (arith, x, e, f, g))
  step_bounded (running i n net) over l h p = tt
  step_bounded over t l h p = absurd p

  pub bounded : (k : ℕ) (s t : State) (text : List ℕ) → Bounded s → Prints b log k s text t → Bounded t
  bounded zero s t text h (_, e) = rw e at h
  bounded (suc k) s t text h (line, m, rest, one, _, p) = bounded k m t rest (step_bounded s m line h one) p

-- a refusal among the first requirements, or all of them met
first_part : (l m : List Requirement) (a : ℕ) → Numbered l → Answers (l ++ m) a → ((0 < a) × Answers l a) ⊎ (AllMet l × Answers m a)
first_part [] m a n p = inr (tt, p)
first_part ((k, M) ∷ l) m a (above, n) (inl (x, e)) = inl (omega arith, inl (x, e))
first_part ((k, M) ∷ l) m a (above, n) (inr (x, p)) = either_part (first_part l m a n p)
  where
    either_part : ((0 < a) × Answers l a) ⊎ (AllMet l × Answers m a) → ((0 < a) × Answers ((k, M) ∷ l) a) ⊎ (AllMet ((k, M) ∷ l) × Answers m a)
    either_part (inl (h, q)) = inl (h, inr (x, q))
    either_part (inr (h, q)) = inr ((x, h), q)

-- what was read of two files is the whole of each, or refused for all that begin so
module _ (b log more rest : List ℕ) where
  later : List ℕ → List Requirement
  later l = (15, length l ≤ 16384) ∷ []

  same_answer : (number : ℕ) → 1 ≤ number → ReadOf longest_scheme b more → ReadOf 16384 log rest → Answers (start_needs b log) number
      → Answers (start_needs (b ++ more) (log ++ rest)) number
  unfolding later
  same_answer number above s l a = go s l (first_part (scheme_needs b) (later log) number (omega arith) a)
    where
      go : ReadOf longest_scheme b more → ReadOf 16384 log rest → ((0 < number) × Answers (scheme_needs b) number) ⊎ (AllMet (scheme_needs b) × Answers (later log) number)
          → Answers (start_needs (b ++ more) (log ++ rest)) number
      go (inl e) y (inl (h, q)) = rw (e, append-nil b) (ahead (scheme_needs b) (later (log ++ rest)) number h q)
      go (inr x) y (inl (h, q)) = ahead (scheme_needs (b ++ more)) (later (log ++ rest)) number h (overlong b more x number q)
      go (inl e) y (inr (m, inl (h, q))) =
          rw (e, append-nil b) (behind (scheme_needs b) (later (log ++ rest)) number m (inl ((λ k. h (omega (arith, k, length-append log rest))), q)))
      go (inl e) y (inr (m, inr (h, q))) = absurd (omega arith)
      go (inr x) y (inr (m, q)) = absurd (omega (arith, fits b (met_granted (scheme_needs b) m)))

  -- more bytes than every accepted scheme or log has
  too_long_lem : (longest_scheme < length b) ⊎ (16384 < length log) → Answers (start_needs b log) 0 → ⊥
  unfolding later
  too_long_lem (inl h) a = omega (arith, fits b (accepted (first_part (scheme_needs b) (later log) 0 (omega arith) a)))
    where
      accepted : ((0 < 0) × Answers (scheme_needs b) 0) ⊎ (AllMet (scheme_needs b) × Answers (later log) 0) → Accepted b
      accepted (inl (h, q)) = q
      accepted (inr (m, q)) = met_granted (scheme_needs b) m
  too_long_lem (inr h) a = let m = granted_met (start_needs b log) (omega arith) a in omega (arith, m.1.1.1.1.1.0)

  refused_text : (text : List ℕ) → ReadOf longest_scheme b more → ReadOf 16384 log rest → (longest_scheme < length b) ⊎ (16384 < length log) → Text b log text → Text (b ++ more) (log ++ rest) text
  refused_text text s l h (zero, (_, e)) = let z : ◌≡◌ {A = ℕ} 0 1 = cc in absurd (omega arith)
  refused_text text s l h (suc k, (line, start, tail, one, _, _)) = absurd one
  refused_text text s l h (suc k, (line, running i n net, tail, one, _, _)) = absurd (too_long_lem h one.0)
  refused_text text s l h (suc k, (line, over, tail, (number, a, above, e), f, p)) =
      (1, (line, over, [], (number, same_answer number above s l a, above, e), f ∙ ap (λ (r : List ℕ). line ++ r) (text_over b log tail (k, p)), (refl, refl)))

  -- the text of what was read is the text of the files
  pub whole_text : (text : List ℕ) → ReadOf longest_scheme b more → ReadOf 16384 log rest → Text b log text → Text (b ++ more) (log ++ rest) text
  whole_text text (inl e) (inl f) (k, p) = (k, rw (e, f, append-nil b, append-nil log) p)
  whole_text text (inl e) (inr h) p = refused_text text (inl e) (inr h) (inr h) p
  whole_text text (inr g) l p = refused_text text (inr g) l (inl g) p
