-- Sizes of a scheme whose counts are in their ranges.
use Prim.Native.Nat.{ℕ}
use mathlib.Core.List.{List}
use native.Mathlib.Omega.{arith}
use Rattle.model.specs.SchemeBytes.{CountsFit}
use Rattle.tables.specs.Read.{CountsOf, InRange}
use Rattle.tables.specs.declared.counts.Summary.{Summary}

pub counts_in : (b : List ℕ) (c : Summary) → CountsOf b c → CountsFit b → InRange c
counts_in b c k g = record {
  members = omega arith;
  states = omega arith;
  primitives = omega arith;
  items = omega arith;
  policies = omega arith;
}
