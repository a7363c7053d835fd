-- What is known of a network that passes 5 has at most one proof, so a struct can hold it.
use Rattle.std.specs.Prelude.{ℕ, List}
use Rattle.std.proofs.Props.{props}
use Rattle.model.specs.Network.{Valid}
use Rattle.model.specs.SchemeBytes.{scheme_of}
use Rattle.tables.specs.Once.{counts_once, accepted_once}
use Rattle.tables.specs.Read.{MarksOf}
use Rattle.tables.specs.declared.counts.Summary.{Summary}
use Rattle.network.specs.Ready.{Ready}

marks_once : (b : List ℕ) (many set : ℕ) → IsProp (MarksOf b many set)
marks_once b many set = Prim.hlevel props

valid_once : (b net : List ℕ) → IsProp (Valid (scheme_of b) net)
valid_once b net = Prim.hlevel props

pub ready_once : (b : List ℕ) (c : Summary) (net : List ℕ) → IsProp (Ready b c net)
ready_once b c net x y = λ i. record {
  accepted = accepted_once b x.accepted y.accepted i;
  counts = counts_once b c x.counts y.counts i;
  marks = marks_once b c.states c.marks x.marks y.marks i;
  valid = valid_once b net x.valid y.valid i;
}
