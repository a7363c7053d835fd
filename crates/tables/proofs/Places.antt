-- Where the code finds the records of a scheme.
use Prim.Native.Nat.{ℕ, ◌+◌}
use mathlib.Core.Path.{◌≡◌}
use mathlib.Core.List.{List}
use Rattle.model.specs.SchemeBytes.{at3, at4, at5, at6}
use Rattle.tables.specs.Read.{CountsOf}
use Rattle.tables.specs.declared.counts.Summary.{Summary}

-- where the code finds the bodies of kinds 3 to 6
pub record Places (b : List ℕ) (c : Summary) (marks policies masks groups : ℕ) : Type 0 where
  pub counts : CountsOf b c
  pub marks_at : marks ≡ at3 b + 4
  pub policies_at : policies ≡ at4 b + 4
  pub masks_at : masks ≡ at5 b + 4
  pub groups_at : groups ≡ at6 b + 4

pub places : {b : List ℕ} {c : Summary} {marks policies masks groups : ℕ} → CountsOf b c
    → ((x : List ℕ) → CountsOf x c → marks ≡ at3 x + 4)
    → ((x : List ℕ) → CountsOf x c → policies ≡ at4 x + 4)
    → ((x : List ℕ) → CountsOf x c → masks ≡ at5 x + 4)
    → ((x : List ℕ) → CountsOf x c → groups ≡ at6 x + 4)
    → Places b c marks policies masks groups
places {b} k f g h i = record { counts = k; marks_at = f b k; policies_at = g b k; masks_at = h b k; groups_at = i b k }
