-- MEANING: the names of what transfers say
use Rattle.std.specs.Prelude.{List, ℕ, [], ◌∷◌, codes, Option, Result}
use Rattle.std.specs.Option.{ok_or}
use Rattle.serde_json.specs.Data.{Data}
use Rattle.wf_event_values.specs.declared.field.Field.{Field}
use Rattle.wf_event_values.specs.declared.refusal.Refusal.{Refusal}
use Rattle.wf_event_values.specs.declared.refusal.Refusal.TheVariants.{InvalidArgument}
use Rattle.service_model_types.specs.declared.transfer.ChildStatus.{ChildStatus}
use Rattle.service_model_types.specs.declared.transfer.ChildStatus.TheVariants as status
use Rattle.service_model_types.specs.declared.transfer.ExternalKind.{ExternalKind}
use Rattle.service_model_types.specs.declared.transfer.ExternalKind.TheVariants as external
use Rattle.service_model_types.specs.declared.transfer.TransferContent.{TransferContent}
use Rattle.service_model_types.specs.declared.transfer.TransferContent.TheVariants as content
use Rattle.wire_fields.specs.Kinds.{string_of, named}
use Rattle.wire_fields.specs.Steps.{◌>>=◌}
use Rattle.wire_record_transfers.specs.declared.kinds.TransferKind.{TransferKind}
use Rattle.wire_record_transfers.specs.declared.kinds.TransferKind.TheVariants as kind

-- how a child closed
abbrev pub child_status_name : ChildStatus → List ℕ
child_status_name status.Completed = codes "Completed"
child_status_name status.Failed = codes "Failed"
child_status_name status.Canceled = codes "Canceled"
child_status_name status.TimedOut = codes "TimedOut"
child_status_name status.Terminated = codes "Terminated"

abbrev pub child_status_named : List ℕ → Option ChildStatus
child_status_named = named child_status_name (status.Completed ∷ status.Failed ∷ status.Canceled ∷ status.TimedOut ∷ status.Terminated ∷ [])

abbrev pub child_status_of : Field → Data → Result ChildStatus Refusal
child_status_of f d = string_of f d >>= (λ text. ok_or (child_status_named text) (InvalidArgument f))

-- which external request is answered
abbrev pub external_kind_name : ExternalKind → List ℕ
external_kind_name external.Signal = codes "signal"
external_kind_name external.Cancel = codes "cancel"

abbrev pub external_kind_named : List ℕ → Option ExternalKind
external_kind_named = named external_kind_name (external.Signal ∷ external.Cancel ∷ [])

abbrev pub external_kind_of : Field → Data → Result ExternalKind Refusal
external_kind_of f d = string_of f d >>= (λ text. ok_or (external_kind_named text) (InvalidArgument f))

-- the kinds of transfer
abbrev pub transfer_kind_name : TransferKind → List ℕ
transfer_kind_name kind.StartChild = codes "start_child"
transfer_kind_name kind.ChildStarted = codes "child_started"
transfer_kind_name kind.ChildStartFailed = codes "child_start_failed"
transfer_kind_name kind.ChildClosed = codes "child_closed"
transfer_kind_name kind.CloseChild = codes "close_child"
transfer_kind_name kind.SignalExternal = codes "signal_external"
transfer_kind_name kind.CancelExternal = codes "cancel_external"
transfer_kind_name kind.ExternalDone = codes "external_done"

abbrev pub transfer_kind_named : List ℕ → Option TransferKind
transfer_kind_named =
    named transfer_kind_name (kind.StartChild ∷ kind.ChildStarted ∷ kind.ChildStartFailed ∷ kind.ChildClosed ∷ kind.CloseChild
    ∷ kind.SignalExternal ∷ kind.CancelExternal ∷ kind.ExternalDone ∷ [])

abbrev pub transfer_kind_of : Field → Data → Result TransferKind Refusal
transfer_kind_of f d = string_of f d >>= (λ text. ok_or (transfer_kind_named text) (InvalidArgument f))

-- the kind of what a transfer says
abbrev pub kind_of : TransferContent → TransferKind
kind_of (content.StartChild c) = kind.StartChild
kind_of (content.ChildStarted c) = kind.ChildStarted
kind_of (content.ChildStartFailed c) = kind.ChildStartFailed
kind_of (content.ChildClosed c) = kind.ChildClosed
kind_of (content.CloseChild c) = kind.CloseChild
kind_of (content.SignalExternal c) = kind.SignalExternal
kind_of (content.CancelExternal c) = kind.CancelExternal
kind_of (content.ExternalDone c) = kind.ExternalDone
