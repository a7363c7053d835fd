-- What is read behind what was read before.
use Rattle.std.proofs.Common.{ℕ, List, ◌+◌, ◌≤◌, ◌≡◌, ◌++◌, length, take, sym}
use Rattle.std.specs.Prelude.{Option}
use Rattle.std.proofs.lemmas.List.{length-take-le, take-append-le}
use Rattle.std.proofs.Math.Seq.{take-append-add}
use Rattle.std.specs.Io.KnownBytes.{Consumes}
use Rattle.std.proofs.KnownBytes.{Consumes-trans}
use borrow.Rule.Slice.PartMut.{put_mid, post_of}

pub consumes_more : (a b c : Option (List ℕ)) (n m k : ℕ) (l read : List ℕ) → n ≤ length l → m ≤ length read → Consumes a b (take n l) → Consumes b c (take m read) → Consumes a c (take (n + m) (put_mid n k l read))
consumes_more a b c n m k l read h i p q = rw front at (Consumes-trans a b c (take n l) (take m read) p q)
  where
    back : List ℕ
    back = post_of n k l

    front : take n l ++ take m read ≡ take (n + m) (put_mid n k l read)
    front = let e = take-append-add (take n l) (read ++ back) m in sym (rw (length-take-le n l h, take-append-le m read back i) at e)
