-- the texts of commands' values are UTF-8
use Rattle.std.proofs.Common.{◌≡◌, ℕ, List, [], ◌∷◌, map, true, Option, Some, None, IfSome, option_map, refl, inl, IsUtf8, codes}
use Rattle.std.proofs.lemmas.Str.{IsUtf8-from_ascii}
use Rattle.std.specs.Prelude.{⊤}
use Rattle.std.specs.List.{AllByRecursion}
use Rattle.json.proofs.Printed.Utf8.{are_ascii, IsUtf8-are_ascii}
use Rattle.uuid.proofs.TextLemmas.{hyphenated_ascii}
use Rattle.uuid.specs.Text.{lower}
use Rattle.base64.proofs.EngineFacts.{IsAscii-encode_of}
use Rattle.base64.specs.Engines.{standard}
use Rattle.serde_json.specs.Data.{Data, string, number, unsigned, object, array}
use Rattle.serde_json.specs.View.{items_of}
use Rattle.wf_event_values.specs.Run.{Run, IsRun}
use Rattle.wf_event_values.specs.Names.{reuse_name, parent_close_name}
use Rattle.wf_event_values.specs.declared.policies.ReusePolicy.{ReusePolicy}
use Rattle.wf_event_values.specs.declared.policies.ReusePolicy.TheVariants.{AllowDuplicate, AllowDuplicateFailedOnly, RejectDuplicate}
use Rattle.wf_event_values.specs.declared.policies.ParentClosePolicy.{ParentClosePolicy}
use Rattle.wf_event_values.specs.declared.policies.ParentClosePolicy.TheVariants.{Terminate, Abandon, RequestCancel}
use Rattle.wf_event.specs.declared.payloads.PolicyFields.{PolicyFields}
use Rattle.wf_command.specs.declared.command.Command.{Command}
use Rattle.wf_command.specs.declared.command.Command.TheVariants as command
use Rattle.wf_command.specs.declared.command.ScheduleActivityTask.{ScheduleActivityTask}
use Rattle.wf_command.specs.declared.command.StartTimer.{StartTimer}
use Rattle.wf_command.specs.declared.command.RecordMarker.{RecordMarker}
use Rattle.wf_command.specs.declared.command.ContinueAsNew.{ContinueAsNew}
use Rattle.wf_command.specs.declared.command.StartChild.{StartChild}
use Rattle.wf_command.specs.declared.command.SignalExternal.{SignalExternal}
use Rattle.wf_command.specs.declared.command.RequestCancelExternal.{RequestCancelExternal}
use Rattle.task_token.specs.RunTexts.{run_bytes, run_text}
use Rattle.task_token.specs.TokenTexts.{token_bytes, token_text}
use Rattle.task_token.specs.declared.token.TaskToken.{TaskToken}
use Rattle.wire_record_rows.specs.Rows.{Row, object_of}
use Rattle.wire_record_rows.specs.Plain.{HasUtf8, HaveUtf8, IfUtf8, RowsUtf8}
use Rattle.wire_record_rows.proofs.RowTexts.{utf8_members}
use Rattle.wire_record_commands.specs.Trees.{unless_factor, policy_rows, activity_rows, timer_rows, marker_rows, continue_rows, child_rows, external_signal_rows, external_cancel_rows, cancel_activity_rows, one_text, command_rows, command_tree}
use Rattle.wire_record_commands.specs.Limits.{IsText, IsId, IsPolicy, IsActivity, IsTimer, IsMarker, IsContinue, IsChild, IsExternalSignal, IsExternalCancel, IsCommand}

-- ---- values

pub literal : (t : List ℕ) → are_ascii t ≡ true → IsUtf8 t
literal = IsUtf8-are_ascii

pub run_utf8 : (r : Run) → IsUtf8 (run_text r)
unfolding run_text
run_utf8 r = IsUtf8-from_ascii _ (hyphenated_ascii lower (run_bytes r) (inl refl))

pub token_utf8 : (t : TaskToken) → IsUtf8 (token_text t)
unfolding token_text
token_utf8 t = IsUtf8-from_ascii _ (IsAscii-encode_of standard (token_bytes t))

pub reuse_utf8 : (x : ReusePolicy) → IsUtf8 (reuse_name x)
reuse_utf8 AllowDuplicate = literal _ refl
reuse_utf8 AllowDuplicateFailedOnly = literal _ refl
reuse_utf8 RejectDuplicate = literal _ refl

pub parent_close_utf8 : (x : ParentClosePolicy) → IsUtf8 (parent_close_name x)
parent_close_utf8 Terminate = literal _ refl
parent_close_utf8 Abandon = literal _ refl
parent_close_utf8 RequestCancel = literal _ refl

-- ---- values that may be missing, and lists

pub if_utf8 : (P : List ℕ → Type 0) → ((t : List ℕ) → P t → IsUtf8 t) → (o : Option (List ℕ)) → IfSome o P → IfUtf8 (option_map string o)
if_utf8 P u None h = tt
if_utf8 P u (Some t) h = u t h

pub if_count_utf8 : (o : Option ℕ) → IfUtf8 (option_map (λ n. number (unsigned n)) o)
if_count_utf8 None = tt
if_count_utf8 (Some n) = tt

pub if_run_utf8 : (o : Option Run) → IfUtf8 (option_map (λ r. string (run_text r)) o)
if_run_utf8 None = tt
if_run_utf8 (Some r) = run_utf8 r

pub each_utf8 : {A : Type 0} (P : A → Type 0) (write : A → Data) → ((x : A) → P x → HasUtf8 (write x)) → (xs : List A) → AllByRecursion P xs → HaveUtf8 (items_of (map write xs))
each_utf8 P write u [] h = tt
each_utf8 P write u (x ∷ xs) h = (u x h.0, each_utf8 P write u xs h.1)

-- ---- commands

policy_utf8 : (g : Option ℕ) (p : PolicyFields) → IsPolicy p → RowsUtf8 (policy_rows g p)
unfolding policy_rows
policy_utf8 g p h = (tt, (if_count_utf8 _, (if_count_utf8 _, (tt, (tt, (each_utf8 IsText string (λ t l. l.1) p.non_retryable h.non_retryable, tt))))))

rows_utf8 : (g : Option ℕ) (c : Command) → IsCommand c → RowsUtf8 (command_rows g c)
unfolding activity_rows policy_rows timer_rows marker_rows continue_rows child_rows external_signal_rows external_cancel_rows
rows_utf8 g (command.ScheduleActivityTask c) h = (h.activity_id.1, (h.activity_type.1, (tt, (h.input.1, (utf8_members (policy_rows g c.retry) refl (policy_utf8 g c.retry h.retry), (tt, (tt, (tt, (h.task_queue.1, (literal _ refl, tt))))))))))
rows_utf8 g (command.RequestCancelActivityTask n) h = (tt, (literal _ refl, tt))
rows_utf8 g (command.StartTimer c) h = (tt, (h.timer_id.1, (literal _ refl, tt)))
rows_utf8 g (command.CancelTimer i) h = (h.1, (literal _ refl, tt))
rows_utf8 g (command.RecordMarker c) h = (h.details.1, (h.name.1, (literal _ refl, tt)))
rows_utf8 g (command.CompleteWorkflowExecution t) h = (h.1, (literal _ refl, tt))
rows_utf8 g (command.FailWorkflowExecution t) h = (h.1, (literal _ refl, tt))
rows_utf8 g (command.CancelWorkflowExecution t) h = (h.1, (literal _ refl, tt))
rows_utf8 g (command.ContinueAsNewWorkflowExecution c) h = (h.input.1, (if_count_utf8 _, (if_utf8 IsId (λ t l. l.1) c.task_queue h.task_queue, (if_count_utf8 _, (literal _ refl, (if_utf8 IsText (λ t l. l.1) c.workflow_type h.workflow_type, tt))))))
rows_utf8 g (command.StartChildWorkflowExecution c) h = (h.input.1, (parent_close_utf8 c.parent_close, (reuse_utf8 c.reuse, (tt, (h.task_queue.1, (tt, (literal _ refl, (h.workflow_id.1, (h.workflow_type.1, tt)))))))))
rows_utf8 g (command.SignalExternalWorkflowExecution c) h = (h.input.1, (h.name.1, (if_run_utf8 c.run, (literal _ refl, (h.workflow_id.1, tt)))))
rows_utf8 g (command.RequestCancelExternalWorkflowExecution c) h = (if_run_utf8 c.run, (literal _ refl, (h.workflow_id.1, tt)))

pub command_utf8 : (g : Option ℕ) (c : Command) → IsCommand c → HasUtf8 (command_tree g c)
unfolding command_tree activity_rows policy_rows timer_rows marker_rows continue_rows child_rows external_signal_rows external_cancel_rows
command_utf8 g (command.ScheduleActivityTask c) h = utf8_members (activity_rows g c) refl (rows_utf8 g (command.ScheduleActivityTask c) h)
command_utf8 g (command.RequestCancelActivityTask n) h = utf8_members (cancel_activity_rows n) refl (rows_utf8 g (command.RequestCancelActivityTask n) h)
command_utf8 g (command.StartTimer c) h = utf8_members (timer_rows c) refl (rows_utf8 g (command.StartTimer c) h)
command_utf8 g (command.CancelTimer i) h = utf8_members (command_rows g (command.CancelTimer i)) refl (rows_utf8 g (command.CancelTimer i) h)
command_utf8 g (command.RecordMarker c) h = utf8_members (marker_rows c) refl (rows_utf8 g (command.RecordMarker c) h)
command_utf8 g (command.CompleteWorkflowExecution t) h = utf8_members (command_rows g (command.CompleteWorkflowExecution t)) refl (rows_utf8 g (command.CompleteWorkflowExecution t) h)
command_utf8 g (command.FailWorkflowExecution t) h = utf8_members (command_rows g (command.FailWorkflowExecution t)) refl (rows_utf8 g (command.FailWorkflowExecution t) h)
command_utf8 g (command.CancelWorkflowExecution t) h = utf8_members (command_rows g (command.CancelWorkflowExecution t)) refl (rows_utf8 g (command.CancelWorkflowExecution t) h)
command_utf8 g (command.ContinueAsNewWorkflowExecution c) h = utf8_members (continue_rows c) refl (rows_utf8 g (command.ContinueAsNewWorkflowExecution c) h)
command_utf8 g (command.StartChildWorkflowExecution c) h = utf8_members (child_rows c) refl (rows_utf8 g (command.StartChildWorkflowExecution c) h)
command_utf8 g (command.SignalExternalWorkflowExecution c) h = utf8_members (external_signal_rows c) refl (rows_utf8 g (command.SignalExternalWorkflowExecution c) h)
command_utf8 g (command.RequestCancelExternalWorkflowExecution c) h = utf8_members (external_cancel_rows c) refl (rows_utf8 g (command.RequestCancelExternalWorkflowExecution c) h)
