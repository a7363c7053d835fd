-- The scheme check answers once: one refusal, or one scheme.
use Prim.Native.Nat.{ℕ, ◌≤◌}
use mathlib.Core.Path.{◌≡◌, sym, ◌∙◌, subst}
use mathlib.Core.List.{List}
use mathlib.Core.HLevel.{is_prop→PathP}
use native.Mathlib.Omega.{arith}
use Rattle.std.specs.Prelude.{Result, Ok, Err}
use Rattle.std.proofs.Props.{props}
use Rattle.model.specs.SchemeBytes.{scheme_needs}
use Rattle.model.proofs.Answering.{answers_unique}
use Rattle.model.proofs.Bits.{set_ext}
use Rattle.refusals.specs.Numbers.{number}
use Rattle.refusals.specs.declared.Refusal.{Refusal}
use Rattle.refusals.proofs.Apart.{number_apart, number_above}
use Rattle.tables.specs.Read.{CountsOf, MarksOf}
use Rattle.tables.specs.declared.counts.Summary.{Summary}
use Rattle.tables.specs.declared.reading.Scheme.{Scheme}
use Rattle.scheme.specs.Checked.{Checked}

marks_once : (b : List ℕ) (S x y : ℕ) → MarksOf b S x → MarksOf b S y → x ≡ y
marks_once b S x y f g = set_ext S x y f.none_above g.none_above (λ q l. f.marked q l ∙ sym (g.marked q l))

summary_once : (b : List ℕ) (c d : Summary) → CountsOf b c → CountsOf b d → MarksOf b c.states c.marks → MarksOf b d.states d.marks → c ≡ d
summary_once b c d f g m k = λ i. record {
  members = members i;
  states = states i;
  primitives = primitives i;
  items = items i;
  policies = policies i;
  marks = marks_once b d.states c.marks d.marks (subst (λ (s : ℕ). MarksOf b s c.marks) states m) k i;
  few_members = is_prop→PathP (λ j. (1 ≤ members j) × (members j ≤ 256)) (λ j. Prim.hlevel props) c.few_members d.few_members i;
  few_states = is_prop→PathP (λ j. (1 ≤ states j) × (states j ≤ 16)) (λ j. Prim.hlevel props) c.few_states d.few_states i;
  few_primitives = is_prop→PathP (λ j. (1 ≤ primitives j) × (primitives j ≤ 8)) (λ j. Prim.hlevel props) c.few_primitives d.few_primitives i;
  few_items = is_prop→PathP (λ j. (1 ≤ items j) × (items j ≤ 16)) (λ j. Prim.hlevel props) c.few_items d.few_items i;
  few_policies = is_prop→PathP (λ j. (1 ≤ policies j) × (policies j ≤ 32)) (λ j. Prim.hlevel props) c.few_policies d.few_policies i;
}
  where
    members : c.members ≡ d.members
    members = f.members ∙ sym g.members

    states : c.states ≡ d.states
    states = f.states ∙ sym g.states

    primitives : c.primitives ≡ d.primitives
    primitives = f.primitives ∙ sym g.primitives

    items : c.items ≡ d.items
    items = f.items ∙ sym g.items

    policies : c.policies ≡ d.policies
    policies = f.policies ∙ sym g.policies

-- two answers say the same: the same refusal, or the same bytes and the same counts
abbrev pub SameAnswer : Result Scheme Refusal → Result Scheme Refusal → Type 0
SameAnswer (Ok s) (Ok t) = (s.bytes.now ≡ t.bytes.now) × (s.counts ≡ t.counts)
SameAnswer (Ok s) (Err y) = ⊥
SameAnswer (Err x) (Ok t) = ⊥
SameAnswer (Err x) (Err y) = x ≡ y

pub checked_once : (b : List ℕ) (x y : Result Scheme Refusal) → Checked b x → Checked b y → SameAnswer x y
checked_once b (Ok s) (Ok t) (f, p) (g, q) = (p.same ∙ sym q.same, summary_once b s.counts t.counts p.counts q.counts p.marks q.marks)
checked_once b (Ok s) (Err y) f g = absurd (omega (arith, number_above y, answers_unique (scheme_needs b) 0 (number y) f.0 g))
checked_once b (Err x) (Ok t) f g = absurd (omega (arith, number_above x, answers_unique (scheme_needs b) (number x) 0 f g.0))
checked_once b (Err x) (Err y) f g = number_apart x y (answers_unique (scheme_needs b) (number x) (number y) f g)
