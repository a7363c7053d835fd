-- Whom policies admit, as a set of policy numbers.
use Rattle.std.specs.Prelude.{ℕ, ◌+◌, ◌≤◌, ◌<◌, ◌≡◌, true, false, List, ◌↔◌}
use Rattle.model.specs.Bytes.{bit, NoBitFrom}
use Rattle.model.specs.Policies.{Admits}
use Rattle.model.specs.SchemeBytes.{scheme_of}
use Rattle.rules.specs.Rules.{kind_of, RuleAt}
use Rattle.rules.specs.declared.Rule.{Rule}
use Rattle.network.specs.Ready.{graph_of}
use Rattle.prepared.specs.Reading.{SomeOfKind}
use Rattle.relation.specs.Related.{Related, SomeWithin}
use Rattle.relation.specs.declared.Relation.{Relation}

-- the relation is what the policies from a number on, below the count, read
abbrev pub Reads : List ℕ → List ℕ → ℕ → ℕ → ℕ → ℕ → Relation → Type 0
Reads b net u v from count relation = Related (graph_of b net) u v (SomeWithin b from count) (SomeOfKind 4 b from count) (SomeOfKind 5 b from count) relation

-- of the policies from a number on, below the count, the set has those that admit accessor v to what owner u has, and no others
pub record Admitted (b net : List ℕ) (u v from count set : ℕ) : Type 0 where
  pub admits : (p : ℕ) → from ≤ p → p < count → (bit set p ≡ true) ↔ Admits (graph_of b net) ((scheme_of b).policy p) u v
  pub none_below : (p : ℕ) → p < from → bit set p ≡ false
  pub none_above : NoBitFrom count set

-- the rule is that of policy p; the relation, and for a combination the set of those below it that admit, are what it reads
pub record NextRule (b net : List ℕ) (u v : ℕ) (relation : Relation) (set : ℕ) (rule : Rule) : Type 0 where
  pub p : ℕ
  pub at : RuleAt b p rule
  pub reads : Reads b net u v p (p + 1) relation
  pub lower : 7 ≤ kind_of ((scheme_of b).policy p) → Admitted b net u v 0 p set
