-- The claims are theorems.
use Rattle.model.specs.Claims.{FromFresh, FromValid}
use Rattle.model.proofs.Once.{one_answer}
use Rattle.model.proofs.Playing.{sixteen_lines}
use Rattle.model.proofs.Tracing.{fresh_start, valid_start, traces_match, runs_replayed, view_granted, items_unseen}
use Rattle.model.proofs.Consenting.{consent_on_record}
use Rattle.claims.specs.Cite.{CallMade}
use Rattle.claims.proofs.Sound.{sound}
use Rattle.claims.proofs.claims.Goals as goal

pub returns : goal.returns
returns c = record {
  every_trace = traces_match CallMade sound FromFresh fresh_start;
  runs_replayed = runs_replayed CallMade sound FromFresh fresh_start;
  view_granted = view_granted CallMade sound FromFresh fresh_start;
  items_unseen = items_unseen CallMade sound FromFresh fresh_start;
  every_trace_from = traces_match CallMade sound FromValid valid_start;
  runs_replayed_from = runs_replayed CallMade sound FromValid valid_start;
  view_granted_from = view_granted CallMade sound FromValid valid_start;
  items_unseen_from = items_unseen CallMade sound FromValid valid_start;
  consent_on_record = consent_on_record CallMade sound;
  one_answer = one_answer;
  sixteen_lines = sixteen_lines;
}
