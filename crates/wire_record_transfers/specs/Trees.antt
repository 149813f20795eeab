-- MEANING: transfers as JSON values
use Rattle.std.specs.Prelude.{ℕ, List, [], ◌∷◌, codes, Option}
use Rattle.serde_json.specs.Data.{Data}
use Rattle.wf_event_values.specs.Names.{reuse_name, parent_close_name}
use Rattle.service_model_types.specs.declared.transfer.StartChildTransfer.{StartChildTransfer}
use Rattle.service_model_types.specs.declared.transfer.ChildStarted.{ChildStarted}
use Rattle.service_model_types.specs.declared.transfer.ChildStartFailed.{ChildStartFailed}
use Rattle.service_model_types.specs.declared.transfer.ChildClosed.{ChildClosed}
use Rattle.service_model_types.specs.declared.transfer.CloseChild.{CloseChild}
use Rattle.service_model_types.specs.declared.transfer.SignalExternalTransfer.{SignalExternalTransfer}
use Rattle.service_model_types.specs.declared.transfer.CancelExternalTransfer.{CancelExternalTransfer}
use Rattle.service_model_types.specs.declared.transfer.ExternalDoneTransfer.{ExternalDoneTransfer}
use Rattle.service_model_types.specs.declared.transfer.TransferContent.{TransferContent}
use Rattle.service_model_types.specs.declared.transfer.TransferContent.TheVariants as content
use Rattle.service_model_types.specs.declared.transfer.Transfer.{Transfer}
use Rattle.wire_record_rows.specs.Rows.{Row, text, count, flag, run, whole, if_run, object_of}
use Rattle.wire_record_transfers.specs.Names.{child_status_name, external_kind_name, transfer_kind_name, kind_of}

unfoldable pub start_child_rows : StartChildTransfer → List Row
start_child_rows c =
    count (codes "initiated") c.initiated ∷ text (codes "input") c.input ∷ run (codes "parent_run") c.parent_run
    ∷ text (codes "reuse") (reuse_name c.reuse) ∷ count (codes "run_timeout") c.run_timeout ∷ text (codes "task_queue") c.task_queue
    ∷ count (codes "task_timeout") c.task_timeout ∷ text (codes "workflow_id") c.workflow_id ∷ text (codes "workflow_type") c.workflow_type
    ∷ []

unfoldable pub child_started_rows : ChildStarted → List Row
child_started_rows c =
    count (codes "initiated") c.initiated ∷ run (codes "parent_run") c.parent_run ∷ run (codes "run") c.run ∷ []

unfoldable pub child_start_failed_rows : ChildStartFailed → List Row
child_start_failed_rows c =
    count (codes "initiated") c.initiated ∷ run (codes "parent_run") c.parent_run ∷ []

unfoldable pub child_closed_rows : ChildClosed → List Row
child_closed_rows c =
    count (codes "initiated") c.initiated ∷ run (codes "parent_run") c.parent_run ∷ run (codes "run") c.run
    ∷ text (codes "status") (child_status_name c.status) ∷ text (codes "text") c.text ∷ []

unfoldable pub close_child_rows : CloseChild → List Row
close_child_rows c =
    count (codes "initiated") c.initiated ∷ run (codes "parent_run") c.parent_run ∷ text (codes "policy") (parent_close_name c.policy)
    ∷ text (codes "workflow_id") c.workflow_id ∷ []

unfoldable pub signal_external_rows : SignalExternalTransfer → List Row
signal_external_rows c =
    run (codes "from_run") c.from_run ∷ count (codes "initiated") c.initiated ∷ text (codes "input") c.input ∷ text (codes "name") c.name
    ∷ if_run (codes "run") c.run ∷ text (codes "workflow_id") c.workflow_id ∷ []

unfoldable pub cancel_external_rows : CancelExternalTransfer → List Row
cancel_external_rows c =
    run (codes "from_run") c.from_run ∷ count (codes "initiated") c.initiated ∷ if_run (codes "run") c.run
    ∷ text (codes "workflow_id") c.workflow_id ∷ []

unfoldable pub external_done_rows : ExternalDoneTransfer → List Row
external_done_rows c =
    flag (codes "done") c.done ∷ count (codes "initiated") c.initiated ∷ text (codes "kind") (external_kind_name c.kind)
    ∷ run (codes "to_run") c.to_run ∷ []

-- what a transfer says
abbrev pub content_rows : TransferContent → List Row
content_rows (content.StartChild c) = start_child_rows c
content_rows (content.ChildStarted c) = child_started_rows c
content_rows (content.ChildStartFailed c) = child_start_failed_rows c
content_rows (content.ChildClosed c) = child_closed_rows c
content_rows (content.CloseChild c) = close_child_rows c
content_rows (content.SignalExternal c) = signal_external_rows c
content_rows (content.CancelExternal c) = cancel_external_rows c
content_rows (content.ExternalDone c) = external_done_rows c

unfoldable pub transfer_rows : Transfer → List Row
transfer_rows t =
    whole (codes "content") (object_of (content_rows t.content)) ∷ count (codes "from") t.from
    ∷ text (codes "kind") (transfer_kind_name (kind_of t.content))
    ∷ count (codes "number") t.number ∷ []
