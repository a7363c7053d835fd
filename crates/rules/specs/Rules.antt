-- Policies as the code has them.
use Rattle.std.specs.Prelude.{ℕ, ◌≤◌, ◌<◌, ◌≡◌, List}
use Rattle.model.specs.Policies.{Policy, no_one, everyone, owner_only, within, known, clique, state, both, either}
use Rattle.model.specs.SchemeBytes.{policy_of, PolicyFits, scheme_of}
use Rattle.model.specs.Policies.{Side, any_side, owner_lesser, owner_greater}
use Rattle.rules.specs.declared.Side.{Side as OnSide}
use Rattle.rules.specs.declared.Side.TheVariants.{Any, OwnerLesser, OwnerGreater}
use Rattle.rules.specs.declared.Rule.{Rule}
use Rattle.rules.specs.declared.Rule.TheVariants.{NoOne, Everyone, Owner, Within, Known, Clique, State, Both, Either}

-- document 01's side
abbrev pub side_named : OnSide → Side
side_named Any = any_side
side_named OwnerLesser = owner_lesser
side_named OwnerGreater = owner_greater

-- the policy that a rule stands for, its operands looked up by their numbers
abbrev pub policy_of_rule : (ℕ → Policy) → Rule → Policy
policy_of_rule lower NoOne = no_one
policy_of_rule lower Everyone = everyone
policy_of_rule lower Owner = owner_only
policy_of_rule lower (Within k) = within k
policy_of_rule lower (Known k) = known k
policy_of_rule lower (Clique k) = clique k
policy_of_rule lower (State set side) = state set (side_named side)
policy_of_rule lower (Both left right) = both (lower left) (lower right)
policy_of_rule lower (Either left right) = either (lower left) (lower right)

-- the number of a policy's kind
abbrev pub kind_of : Policy → ℕ
kind_of no_one = 0
kind_of everyone = 1
kind_of owner_only = 2
kind_of (within k) = 3
kind_of (known k) = 4
kind_of (clique k) = 5
kind_of (state set side) = 6
kind_of (both p q) = 7
kind_of (either p q) = 8

-- what a rule's fields are, where it is policy p
abbrev pub RuleFits : ℕ → Rule → Type 0
RuleFits p NoOne = Unit {0}
RuleFits p Everyone = Unit {0}
RuleFits p Owner = Unit {0}
RuleFits p (Within k) = 1 ≤ k
RuleFits p (Known k) = 1 ≤ k
RuleFits p (Clique k) = (2 ≤ k) × (k ≤ 5)
RuleFits p (State set side) = Unit {0}
RuleFits p (Both left right) = (left < p) × (right < p)
RuleFits p (Either left right) = (left < p) × (right < p)

-- the rule is that of a policy's four bytes
pub record RuleOf (kind k left right : ℕ) (rule : Rule) : Type 0 where
  pub policy : (lower : ℕ → Policy) → policy_of lower kind k left right ≡ policy_of_rule lower rule
  pub fits : (S p : ℕ) → PolicyFits S p kind k left right → RuleFits p rule

-- the rule is policy p of the scheme that the bytes hold
pub record RuleAt (b : List ℕ) (p : ℕ) (rule : Rule) : Type 0 where
  pub policy : (scheme_of b).policy p ≡ policy_of_rule (scheme_of b).policy rule
  pub fits : RuleFits p rule
