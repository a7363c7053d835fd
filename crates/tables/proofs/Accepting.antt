-- An accepted scheme can be read.
use Prim.Native.Nat.{ℕ}
use mathlib.Core.List.{List}
use native.Mathlib.Omega.{arith}
use Rattle.model.specs.SchemeBytes.{scheme_needs, Accepted}
use Rattle.model.proofs.Answering.{granted_met}
use Rattle.tables.specs.Read.{CountsOf, ReadAs}
use Rattle.tables.specs.declared.counts.Summary.{Summary}
use Rattle.tables.proofs.Ranges.{counts_in}

pub accepted_read : {b : List ℕ} {c : Summary} → Accepted b → CountsOf b c → ReadAs b c
accepted_read {b} {c} a k =
    let m = granted_met (scheme_needs b) (omega arith) a in
    record { counts = k; range = counts_in b c k m.1.0; records = m.1.1.0; bytes = m.1.1.1.0 }
