-- What a policy admits among strangers.
use Prim.Native.Nat.{ℕ, zero, suc, ◌+◌, ◌^◌, ◌≤◌, ◌<◌, zero-le}
use mathlib.Core.Path.{◌≡◌, refl, sym, ◌∙◌}
use mathlib.Core.Bool.{Bool, true, false, cond, not, false≢true}
use mathlib.Core.List.{List, [], ◌∷◌}
use mathlib.Core.Logic.{inl, inr, ⊎_elim}
use native.Mathlib.Omega.{arith}
use native.Mathlib.Decide.{dec_lt}
use borrow.Author.Count.{below_more}
use lib.Bits.{bit_and, bit_or}
use lib.ListN.{length, get_or, set}
use lib.Seq.{get_or-set_same, get_or-set_other}
use Rattle.model.specs.Bytes.{byte, bit}
use Rattle.model.specs.Decides.{Decides}
use Rattle.model.specs.Graph.{Friends, Onward, count}
use Rattle.model.specs.Policies.{OnSide, Admits, known, clique}
use Rattle.model.specs.Scheme.{lowest}
use Rattle.model.specs.SchemeBytes.{strangers, side_of, scheme_of, at3, MaskFits, StrangersApart}
use Rattle.model.proofs.Sets.{none_in_zero}
use Rattle.model.proofs.Bits.{bit_and_lem, bit_or_lem, bit_below, lowest_in}
use Rattle.model.proofs.Cliques.{mutual_friends}
use Rattle.model.proofs.Counting.{count_above}
use Rattle.model.proofs.Deciding.{Says, says, is_so, iff, conj, disj}
use Rattle.rules.specs.declared.Rule.{Rule}
use Rattle.rules.specs.declared.Rule.TheVariants.{NoOne, Everyone, Owner, Within, Known, Clique as CliqueRule, State, Both, Either}
use Rattle.rules.specs.declared.Side.{Side}
use Rattle.rules.specs.declared.Side.TheVariants.{Any, OwnerLesser, OwnerGreater}
use Rattle.rules.specs.Rules.{policy_of_rule, side_named, RuleFits}
use Rattle.strangers.specs.Strangers.{SidesOf, SidesBelow}

-- the sides that a state policy names
abbrev pub sides_for : Side → ℕ
sides_for Any = 6
sides_for OwnerLesser = 2
sides_for OwnerGreater = 4

-- the sides of a rule, where the list has those of the policies of lower number
abbrev pub answer : List ℕ → Rule → ℕ
answer sides NoOne = 0
answer sides Everyone = 6
answer sides Owner = 0
answer sides (Within k) = 0
answer sides (Known k) = 0
answer sides (CliqueRule k) = 0
answer sides (State states wanted) = cond (bit states 0) (sides_for wanted) 0
answer sides (Both left right) = bit_and (get_or sides left 0) (get_or sides right 0)
answer sides (Either left right) = bit_or (get_or sides left 0) (get_or sides right 0)

neither_says : (side : ℕ) {P : Type 0} → (P → ⊥) → Says (bit 0 side) P
neither_says side n = record { yes_if = λ e. absurd (false≢true (sym (none_in_zero 0 side zero-le) ∙ e)); no_if = λ e. n }

both_say : (side : ℕ) {P : Type 0} → 1 ≤ side → side ≤ 2 → P → Says (bit 6 side) P
both_say zero a b p = absurd (omega arith)
both_say (suc zero) a b p = says p
both_say (suc (suc zero)) a b p = says p
both_say (suc (suc (suc side))) a b p = absurd (omega arith)

-- an accessor on side 1 or 2 is not on the other
side_says : (side : ℕ) (wanted : Side) (u v : ℕ) → 1 ≤ side → side ≤ 2 → OnSide (side_of side) u v
    → Says (bit (sides_for wanted) side) (OnSide (side_named wanted) u v)
side_says side Any u v a b h = both_say side a b tt
side_says zero wanted u v a b h = absurd (omega arith)
side_says (suc zero) OwnerLesser u v a b h = says h
side_says (suc zero) OwnerGreater u v a b h = says (λ k. omega arith)
side_says (suc (suc zero)) OwnerLesser u v a b h = says (λ k. omega arith)
side_says (suc (suc zero)) OwnerGreater u v a b h = says h
side_says (suc (suc (suc side))) wanted u v a b h = absurd (omega arith)

-- owner and accessor on a side are two
sided : (side u v : ℕ) → 1 ≤ side → side ≤ 2 → OnSide (side_of side) u v → u ≡ v → ⊥
sided zero u v a b h e = omega arith
sided (suc zero) u v a b h e = omega arith
sided (suc (suc zero)) u v a b h e = omega arith
sided (suc (suc (suc side))) u v a b h e = omega arith

module _ (n u v : ℕ) (apart : u ≡ v → ⊥) where
  no_walk : (l : List ℕ) → Onward (Friends (strangers n)) u l v → ⊥
  no_walk [] e = apart e
  no_walk (x ∷ l) (f, w) = false≢true f

  no_shared : (k : ℕ) → 1 ≤ k → Admits (strangers n) (known k) u v → ⊥
  unfolding count
  no_shared k a (inl e) = apart e
  no_shared k a (inr (inl f)) = false≢true f
  no_shared k a (inr (inr h)) = omega (arith, count_above (λ m. false) 0 n zero-le (λ m l. refl))

  no_clique : (k : ℕ) → Admits (strangers n) (clique k) u v → ⊥
  no_clique k (inl e) = apart e
  no_clique k (inr (l, s, m, i, j)) = ⊎_elim false≢true false≢true (mutual_friends (strangers n) l u v m i j apart)

module _ (b sides : List ℕ) (p : ℕ) (lower : SidesBelow b sides p) (n u v side : ℕ) (least : 1 ≤ side) (most : side ≤ 2) (h : OnSide (side_of side) u v) where
  operand : (q : ℕ) → q < p → Says (bit (get_or sides q 0) side) (Admits (strangers n) ((scheme_of b).policy q) u v)
  operand q l =
      let (to, from) = lower q l n u v side least most h in
      record { yes_if = to; no_if = λ e a. false≢true (sym e ∙ from a) }

  in_state : (t : Bool) (wanted : Side) → Says (bit (cond t (sides_for wanted) 0) side) ((t ≡ true) × OnSide (side_named wanted) u v)
  in_state true wanted = iff (λ o. (refl, o)) (λ o. o.1) (side_says side wanted u v least most h)
  in_state false wanted = neither_says side (λ o. false≢true o.0)

  rule_says : (rule : Rule) → RuleFits p rule → Says (bit (answer sides rule) side) (Admits (strangers n) (policy_of_rule (scheme_of b).policy rule) u v)
  rule_says NoOne f = neither_says side (λ x. x)
  rule_says Everyone f = both_say side least most tt
  rule_says Owner f = neither_says side (sided side u v least most h)
  rule_says (Within k) f = neither_says side (λ (l, s, w). no_walk n u v (sided side u v least most h) l w)
  rule_says (Known k) f = neither_says side (no_shared n u v (sided side u v least most h) k f)
  rule_says (CliqueRule k) f = neither_says side (no_clique n u v (sided side u v least most h) k)
  rule_says (State states wanted) f = in_state (bit states 0) wanted
  rule_says (Both left right) f = rw (bit_and_lem (get_or sides left 0) (get_or sides right 0) side) (conj (operand left f.0) (operand right f.1))
  rule_says (Either left right) f = rw (bit_or_lem (get_or sides left 0) (get_or sides right 0) side) (disj (operand left f.0) (operand right f.1))

-- the answer for a rule has its sides
pub answered : (b sides : List ℕ) (p : ℕ) (rule : Rule) → RuleFits p rule → SidesBelow b sides p → SidesOf (answer sides rule) (policy_of_rule (scheme_of b).policy rule)
answered b sides p rule f lower n u v side least most h = let s = rule_says b sides p lower n u v side least most h rule f in (s.yes_if, is_so s)

-- an answer is right where it is the rule's
pub told : (b sides : List ℕ) (p : ℕ) (rule : Rule) (found : ℕ) → RuleFits p rule → SidesBelow b sides p → answer sides rule ≡ found → SidesOf found (policy_of_rule (scheme_of b).policy rule)
told b sides p rule found f lower e = rw e at (answered b sides p rule f lower)

-- one more policy
pub sides_more : (b sides : List ℕ) (p x : ℕ) → p < length sides → SidesBelow b sides p → SidesOf x ((scheme_of b).policy p) → SidesBelow b (set sides p x) (p + 1)
sides_more b sides p x l f g =
    below_more (λ (q : ℕ). SidesOf (get_or (set sides p x) q 0) ((scheme_of b).policy q)) p
    (λ q m. rw (get_or-set_other sides p q x 0 (λ e. omega arith)) (f q m))
    (rw (get_or-set_same sides p x 0 l) g)

-- the lowest policy of a mask is one of the policies
pub lowest_below : (P x : ℕ) → x < 2 ^ 32 → MaskFits P x → lowest x < P
lowest_below P x f (some, none) = bit_below x P (lowest x) none (lowest_in x some f)

module _ (b : List ℕ) (sides : ℕ) (has : SidesOf sides ((scheme_of b).policy (lowest ((scheme_of b).mask 0)))) where
  -- where there is a side, the lowest search policy admits a stranger
  pub searched : (side u v : ℕ) → 1 ≤ side → side ≤ 2 → OnSide (side_of side) u v → (u ≡ v → ⊥) → bit sides side ≡ true → StrangersApart b → ⊥
  searched side u v l m h n e s = s.unsearched 0 u v n ((has 0 u v side l m h).0 e)

  -- the answer, where side 1 is none
  pub apart_decides : byte b (at3 b + 4) ≡ 0 → bit sides 1 ≡ false → (t : Bool) → bit sides 2 ≡ t → Decides (not t) (StrangersApart b)
  apart_decides m d true e = searched 2 1 0 (omega arith) (omega arith) (omega arith) (λ z. omega arith) e
  apart_decides m d false e = record { unmarked = m; unsearched = λ n u v apart x. go n u v apart x (dec_lt u v) }
    where
      go : (n u v : ℕ) → (u ≡ v → ⊥) → Admits (strangers n) ((scheme_of b).policy (lowest ((scheme_of b).mask 0))) u v → Dec (u < v) → ⊥
      go n u v apart x (yes h) = false≢true (sym d ∙ (has n u v 1 (omega arith) (omega arith) h).1 x)
      go n u v apart x (no h) = false≢true (sym e ∙ (has n u v 2 (omega arith) (omega arith) (omega arith)).1 x)
