-- PROOF: the transfer that a JSON value has; keys that have another place and keys that are too many are read too
use Rattle.std.specs.Prelude.{ℕ, codes, Option, Result, Ok}
use Rattle.serde_json.specs.Data.{Data}
use Rattle.wf_event_values.specs.declared.field.Field.TheVariants as field
use Rattle.wf_event_values.specs.declared.refusal.Refusal.{Refusal}
use Rattle.service_model_types.specs.declared.transfer.StartChildTransfer.{StartChildTransfer}
use Rattle.service_model_types.specs.declared.transfer.ChildStarted.{ChildStarted}
use Rattle.service_model_types.specs.declared.transfer.ChildStartFailed.{ChildStartFailed}
use Rattle.service_model_types.specs.declared.transfer.ChildClosed.{ChildClosed}
use Rattle.service_model_types.specs.declared.transfer.CloseChild.{CloseChild}
use Rattle.service_model_types.specs.declared.transfer.SignalExternalTransfer.{SignalExternalTransfer}
use Rattle.service_model_types.specs.declared.transfer.CancelExternalTransfer.{CancelExternalTransfer}
use Rattle.service_model_types.specs.declared.transfer.ExternalDoneTransfer.{ExternalDoneTransfer}
use Rattle.service_model_types.specs.declared.transfer.TransferContent.{TransferContent}
use Rattle.service_model_types.specs.declared.transfer.TransferContent.TheVariants as content
use Rattle.service_model_types.specs.declared.transfer.Transfer.{Transfer}
use Rattle.wire_fields.specs.Steps.{◌>>=◌}
use Rattle.wire_fields.specs.Kinds.{text_of, id_of, number_of, span_of, flag_of, run_of, reuse_of, parent_close_of}
use Rattle.wire_fields.specs.Fields.{required, optional}
use Rattle.wire_record_rows.specs.Keys.{keyed, inner, shard_in}
use Rattle.wire_record_transfers.specs.Names.{child_status_of, external_kind_of, transfer_kind_of}
use Rattle.wire_record_transfers.specs.declared.kinds.TransferKind.{TransferKind}
use Rattle.wire_record_transfers.specs.declared.kinds.TransferKind.TheVariants as kind

unfoldable pub start_child_of : Data → Result StartChildTransfer Refusal
start_child_of d = do
  initiated ← keyed number_of (codes "initiated") d
  input ← required text_of field.Input d
  parent_run ← keyed run_of (codes "parent_run") d
  reuse ← required reuse_of field.Reuse d
  run_timeout ← required span_of field.RunTimeout d
  task_queue ← required id_of field.TaskQueue d
  task_timeout ← required span_of field.TaskTimeout d
  workflow_id ← required id_of field.WorkflowId d
  workflow_type ← required text_of field.WorkflowType d
  Ok (record {
    parent_run = parent_run;
    initiated = initiated;
    workflow_id = workflow_id;
    workflow_type = workflow_type;
    task_queue = task_queue;
    input = input;
    reuse = reuse;
    run_timeout = run_timeout;
    task_timeout = task_timeout;
  })

unfoldable pub child_started_of : Data → Result ChildStarted Refusal
child_started_of d = do
  initiated ← keyed number_of (codes "initiated") d
  parent_run ← keyed run_of (codes "parent_run") d
  run ← required run_of field.Run d
  Ok (record { parent_run = parent_run; initiated = initiated; run = run })

unfoldable pub child_start_failed_of : Data → Result ChildStartFailed Refusal
child_start_failed_of d = do
  initiated ← keyed number_of (codes "initiated") d
  parent_run ← keyed run_of (codes "parent_run") d
  Ok (record { parent_run = parent_run; initiated = initiated })

unfoldable pub child_closed_of : Data → Result ChildClosed Refusal
child_closed_of d = do
  initiated ← keyed number_of (codes "initiated") d
  parent_run ← keyed run_of (codes "parent_run") d
  run ← required run_of field.Run d
  status ← keyed child_status_of (codes "status") d
  text ← keyed text_of (codes "text") d
  Ok (record { parent_run = parent_run; initiated = initiated; run = run; status = status; text = text })

unfoldable pub close_child_of : Data → Result CloseChild Refusal
close_child_of d = do
  initiated ← keyed number_of (codes "initiated") d
  parent_run ← keyed run_of (codes "parent_run") d
  policy ← keyed parent_close_of (codes "policy") d
  workflow_id ← required id_of field.WorkflowId d
  Ok (record { parent_run = parent_run; initiated = initiated; workflow_id = workflow_id; policy = policy })

unfoldable pub signal_external_of : Data → Result SignalExternalTransfer Refusal
signal_external_of d = do
  from_run ← keyed run_of (codes "from_run") d
  initiated ← keyed number_of (codes "initiated") d
  input ← required text_of field.Input d
  name ← required text_of field.Name d
  run ← optional run_of field.Run d
  workflow_id ← required id_of field.WorkflowId d
  Ok (record { from_run = from_run; initiated = initiated; workflow_id = workflow_id; run = run; name = name; input = input })

unfoldable pub cancel_external_of : Data → Result CancelExternalTransfer Refusal
cancel_external_of d = do
  from_run ← keyed run_of (codes "from_run") d
  initiated ← keyed number_of (codes "initiated") d
  run ← optional run_of field.Run d
  workflow_id ← required id_of field.WorkflowId d
  Ok (record { from_run = from_run; initiated = initiated; workflow_id = workflow_id; run = run })

unfoldable pub external_done_of : Data → Result ExternalDoneTransfer Refusal
external_done_of d = do
  done ← keyed flag_of (codes "done") d
  initiated ← keyed number_of (codes "initiated") d
  kind ← keyed external_kind_of (codes "kind") d
  to_run ← keyed run_of (codes "to_run") d
  Ok (record { to_run = to_run; initiated = initiated; kind = kind; done = done })

abbrev pub content_of : TransferKind → Data → Result TransferContent Refusal
content_of kind.StartChild d = start_child_of d >>= (λ c. Ok (content.StartChild c))
content_of kind.ChildStarted d = child_started_of d >>= (λ c. Ok (content.ChildStarted c))
content_of kind.ChildStartFailed d = child_start_failed_of d >>= (λ c. Ok (content.ChildStartFailed c))
content_of kind.ChildClosed d = child_closed_of d >>= (λ c. Ok (content.ChildClosed c))
content_of kind.CloseChild d = close_child_of d >>= (λ c. Ok (content.CloseChild c))
content_of kind.SignalExternal d = signal_external_of d >>= (λ c. Ok (content.SignalExternal c))
content_of kind.CancelExternal d = cancel_external_of d >>= (λ c. Ok (content.CancelExternal c))
content_of kind.ExternalDone d = external_done_of d >>= (λ c. Ok (content.ExternalDone c))

unfoldable pub transfer_of : Data → Result Transfer Refusal
transfer_of d = do
  from ← required number_of field.From d >>= shard_in
  kind ← keyed transfer_kind_of (codes "kind") d
  number ← keyed number_of (codes "number") d
  content ← inner (codes "content") d >>= content_of kind
  Ok (record { from = from; number = number; content = content })
