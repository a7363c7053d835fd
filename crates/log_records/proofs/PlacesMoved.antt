-- A request's record lies within the log.
use Prim.Native.Nat.{ℕ, ◌+◌, ◌≤◌}
use mathlib.Core.List.{List}
use lib.ListN.{length}
use Rattle.std.specs.Prelude.{Some, Ok}
use Rattle.model.specs.Bytes.{two}
use Rattle.model.proofs.Logging.{within}
use Rattle.kinds.specs.Kinds.{request_of}
use Rattle.kinds.specs.declared.Request.{Request}
use Rattle.log_records.specs.Read.{SaidAt}

pub inside : (log : List ℕ) (place : ℕ) (q : Request) → SaidAt log place (Some (Ok q)) → place + 4 + two log place ≤ length log
inside log place q s = (within log 0 place (request_of q 0) (s 0).1).1
