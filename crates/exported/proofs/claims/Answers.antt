-- The claims are theorems.
use Rattle.model.specs.Claims.{FromFresh, FromValid}
use Rattle.model.proofs.Tracing.{fresh_start, valid_start, traces_match, runs_replayed, view_granted, items_unseen}
use Rattle.model.proofs.Consenting.{consent_on_record}
use Rattle.exported.specs.Cite.{ExportedCall}
use Rattle.exported.proofs.Sound.{sound}
use Rattle.exported.proofs.claims.Goals as goal

pub returns : goal.returns
returns c = record {
  every_trace = traces_match ExportedCall sound FromFresh fresh_start;
  runs_replayed = runs_replayed ExportedCall sound FromFresh fresh_start;
  view_granted = view_granted ExportedCall sound FromFresh fresh_start;
  items_unseen = items_unseen ExportedCall sound FromFresh fresh_start;
  every_trace_from = traces_match ExportedCall sound FromValid valid_start;
  runs_replayed_from = runs_replayed ExportedCall sound FromValid valid_start;
  view_granted_from = view_granted ExportedCall sound FromValid valid_start;
  items_unseen_from = items_unseen ExportedCall sound FromValid valid_start;
  consent_on_record = consent_on_record ExportedCall sound;
}
