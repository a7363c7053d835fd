-- What moves after what moved before.
use Rattle.std.proofs.Common.{◌≡◌, ℕ, List, ◌+◌, take, drop}
use Rattle.std.specs.Prelude.{Option}
use Rattle.std.proofs.Math.Seq.{take-add}
use Rattle.std.specs.Io.KnownBytes.{Appends, Consumes}
use Rattle.std.proofs.KnownBytes.{Appends-trans, Consumes-trans}

pub appends_more : (a b c : Option (List ℕ)) (n m : ℕ) (l : List ℕ) → Appends a b (take n l) → Appends b c (take m (drop n l)) → Appends a c (take (n + m) l)
appends_more a b c n m l p q = rw (take-add n m l) (Appends-trans a b c (take n l) (take m (drop n l)) p q)

pub consumes_more : (a b c : Option (List ℕ)) (n m : ℕ) (l k : List ℕ) → take n k ≡ take n l → Consumes a b (take n l) → Consumes b c (take m (drop n k)) → Consumes a c (take (n + m) k)
consumes_more a b c n m l k e p q = rw (take-add n m k, e) (Consumes-trans a b c (take n l) (take m (drop n k)) p q)
