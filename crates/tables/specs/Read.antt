-- What is known of a scheme that was read.
use Rattle.std.specs.Prelude.{ℕ, ◌≤◌, ◌<◌, ◌≡◌, List}
use Rattle.model.specs.Bytes.{bit, NoBitFrom}
use Rattle.model.specs.SchemeBytes.{n, S, A, I, P, Records, BytesFit, scheme_of}
use Rattle.tables.specs.declared.counts.Summary.{Summary}

-- c holds the five counts of the bytes' head record
pub record CountsOf (b : List ℕ) (c : Summary) : Type 0 where
  pub members : c.members ≡ n b
  pub states : c.states ≡ S b
  pub primitives : c.primitives ≡ A b
  pub items : c.items ≡ I b
  pub policies : c.policies ≡ P b

-- each count is in its range
pub record InRange (c : Summary) : Type 0 where
  pub members : (1 ≤ c.members) × (c.members ≤ 256)
  pub states : (1 ≤ c.states) × (c.states ≤ 16)
  pub primitives : (1 ≤ c.primitives) × (c.primitives ≤ 8)
  pub items : (1 ≤ c.items) × (c.items ≤ 16)
  pub policies : (1 ≤ c.policies) × (c.policies ≤ 32)

-- the bytes pass the scheme check up to 3, and c holds their counts: what the reads of a scheme rest on
pub record ReadAs (b : List ℕ) (c : Summary) : Type 0 where
  pub counts : CountsOf b c
  pub range : InRange c
  pub records : Records b
  pub bytes : BytesFit b

-- the set holds the states that make friends, of S states
pub record MarksOf (b : List ℕ) (S set : ℕ) : Type 0 where
  pub marked : (q : ℕ) → q < S → bit set q ≡ (scheme_of b).friendly q
  pub none_above : NoBitFrom S set
