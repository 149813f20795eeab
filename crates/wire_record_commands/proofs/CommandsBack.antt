-- what was written of a command is read again
use Rattle.std.proofs.Common.{◌≡◌, ℕ, suc, ◌<◌, ◌^◌, List, [], ◌∷◌, true, Option, Some, None, option_map, refl, ap, ap₂, ◌∙◌, arith, codes}
use Rattle.std.specs.Prelude.{⊤, Result, Ok, Err}
use Rattle.serde_json.specs.Data.{Data, number, unsigned, string, object}
use Rattle.wf_event_values.specs.declared.field.Field.{Field}
use Rattle.wf_event_values.specs.declared.field.Field.TheVariants as field
use Rattle.wf_event_values.specs.declared.refusal.Refusal.{Refusal}
use Rattle.wf_event_values.specs.Limits.{IsSpan}
use Rattle.wf_event_values.specs.Names.{reuse_name, parent_close_name}
use Rattle.wf_event_values.specs.Run.{Run, IsRun}
use Rattle.wf_event_values.specs.declared.policies.ParentClosePolicy.TheVariants.{Terminate}
use Rattle.wf_event_values.specs.declared.policies.ReusePolicy.TheVariants.{AllowDuplicate}
use Rattle.wf_event.specs.declared.payloads.PolicyFields.{PolicyFields}
use Rattle.wf_command.specs.declared.command.Command.{Command}
use Rattle.wf_command.specs.declared.command.Command.TheVariants as command
use Rattle.wf_command.specs.declared.command.ScheduleActivityTask.{ScheduleActivityTask}
use Rattle.wf_command.specs.declared.command.StartTimer.{StartTimer}
use Rattle.wf_command.specs.declared.command.RecordMarker.{RecordMarker}
use Rattle.wf_command.specs.declared.command.ContinueAsNew.{ContinueAsNew}
use Rattle.wf_command.specs.declared.command.StartChild.{StartChild}
use Rattle.wf_command.specs.declared.command.SignalExternal.{SignalExternal}
use Rattle.wf_command.specs.declared.command.RequestCancelExternal.{RequestCancelExternal}
use Rattle.task_token.specs.RunTexts.{run_text}
use Rattle.wire_fields.specs.Kinds.{text_of, id_of, number_of, span_of, reuse_of, parent_close_of}
use Rattle.wire_fields.specs.Fields.{required}
use Rattle.wire_requests.specs.ActivityCommands.{activity_of}
use Rattle.wire_requests.specs.declared.commands.CommandType.{CommandType}
use Rattle.wire_requests.specs.Commands.{type_of, timer_of, marker_of, continue_of, fields_of, command_of}
use Rattle.wire_requests.specs.ExternalCommands.{child_of, command_run_of, external_signal_of, external_cancel_of}
use Rattle.wire_requests.specs.RetryPolicies.{counts_as, growth_by, growth_of, texts_of, policy_fields_of, policy_of, default_policy}
use Rattle.wire_requests.specs.declared.commands.CommandType.TheVariants as type
use Rattle.wire_record_rows.specs.Rows.{Row, rise, object_of}
use Rattle.wire_record_rows.specs.Plain.{IsPlain, IfPlain, RowsPlain}
use Rattle.wire_record_rows.proofs.RowLemmas.{found, plain_members}
use Rattle.wire_record_commands.specs.Trees.{text_list, policy_rows, activity_rows, timer_rows, marker_rows, continue_rows, child_rows, external_signal_rows, external_cancel_rows, one_text, cancel_activity_rows, command_rows, command_tree, unless_factor}
use Rattle.wire_record_commands.specs.Older.{CountsFor}
use Rattle.wire_record_commands.specs.Limits.{IsText, IsId, IsNumber, IsPolicy, IsActivity, IsTimer, IsMarker, IsContinue, IsChild, IsExternalSignal, IsExternalCancel, IsCommand}
use Rattle.wire_record_commands.proofs.ValuesBack.{then, required_is, default_is, optional_is, text_back, id_back, span_back, command_run_back, reuse_back, parent_close_back, list_back, span_plain, if_plain, each_plain}

-- ---- a retry policy

-- the factor, where there is one, counts as the coefficient
abbrev Counts : Option ℕ → ℕ → Type 0
Counts None c = ⊤
Counts (Some f) c = IsNumber f × (counts_as f ≡ c)

growth_back : (g : Option ℕ) (c : ℕ) → Counts g c → growth_by (option_map (λ n. number (unsigned n)) (unless_factor g c)) (option_map (λ n. number (unsigned n)) g) ≡ Ok c
growth_back None c h = refl
growth_back (Some f) c h = ap Ok h.1

growth_is : (g : Option ℕ) (p : PolicyFields) → Counts g p.coefficient → growth_of (object_of (policy_rows g p)) ≡ Ok p.coefficient
unfolding policy_rows
growth_is g p h =
    let rows = policy_rows g p in
    ap₂ growth_by (found (codes "coefficient") rows refl) (found (codes "factor") rows refl) ∙ growth_back g p.coefficient h

policy_back : (f : Field) (g : Option ℕ) (p : PolicyFields) → Counts g p.coefficient → IsPolicy p → policy_of f (object_of (policy_rows g p)) ≡ Ok p
unfolding policy_fields_of policy_rows
policy_back f g p e h =
    let rows = policy_rows g p in
    then _ (default_is number_of 0 field.Attempts rows _ p.attempts refl refl refl)
    (then _ (growth_is g p e)
    (then _ (default_is number_of 1000 field.Initial rows _ p.initial refl refl refl)
    (then _ (default_is number_of 0 field.Maximum rows _ p.maximum refl refl refl)
    (then _ (default_is texts_of [] field.NonRetryable rows _ p.non_retryable refl refl (list_back field.NonRetryable IsText (text_of field.NonRetryable) string (text_back field.NonRetryable) p.non_retryable h.non_retryable))
    refl))))

coefficient_plain : (k : ℕ) (g : Option ℕ) (c : ℕ) → IsNumber c → IfPlain k (option_map (λ n. number (unsigned n)) (unless_factor g c))
coefficient_plain k None c h = h
coefficient_plain k (Some f) c h = tt

factor_plain : (k : ℕ) (g : Option ℕ) (c : ℕ) → Counts g c → IfPlain k (option_map (λ n. number (unsigned n)) g)
factor_plain k None c h = tt
factor_plain k (Some f) c h = h.0

policy_plain : (k : ℕ) (g : Option ℕ) (p : PolicyFields) → Counts g p.coefficient → IsPolicy p → RowsPlain (suc k) (policy_rows g p)
unfolding policy_rows
policy_plain k g p e h = (h.attempts, (coefficient_plain (suc k) g p.coefficient h.coefficient, (factor_plain (suc k) g p.coefficient e, (h.initial, (h.maximum, (each_plain IsText string k (λ x l. tt) p.non_retryable h.non_retryable, tt))))))

-- ---- commands of several fields

activity_back : (g : Option ℕ) (c : ScheduleActivityTask) → Counts g c.retry.coefficient → IsActivity c → activity_of (object_of (activity_rows g c)) ≡ Ok c
unfolding activity_of activity_rows
activity_back g c e h =
    let rows = activity_rows g c in
    then _ (required_is id_of field.ActivityId rows _ c.activity_id refl refl (id_back field.ActivityId c.activity_id h.activity_id))
    (then _ (default_is text_of [] field.ActivityType rows _ c.activity_type refl refl (text_back field.ActivityType c.activity_type h.activity_type))
    (then _ (required_is id_of field.TaskQueue rows _ c.task_queue refl refl (id_back field.TaskQueue c.task_queue h.task_queue))
    (then _ (default_is text_of [] field.Input rows _ c.input refl refl (text_back field.Input c.input h.input))
    (then _ (default_is span_of 0 field.ScheduleToStart rows _ c.schedule_to_start refl refl (span_back field.ScheduleToStart c.schedule_to_start h.schedule_to_start))
    (then _ (default_is span_of 0 field.StartToClose rows _ c.start_to_close refl refl (span_back field.StartToClose c.start_to_close h.start_to_close))
    (then _ (default_is span_of 0 field.ScheduleToClose rows _ c.schedule_to_close refl refl (span_back field.ScheduleToClose c.schedule_to_close h.schedule_to_close))
    (then _ (default_is span_of 0 field.Heartbeat rows _ c.heartbeat refl refl (span_back field.Heartbeat c.heartbeat h.heartbeat))
    (then _ (default_is policy_of default_policy field.Retry rows _ c.retry refl refl (policy_back field.Retry g c.retry e h.retry))
    refl))))))))

activity_plain : (k : ℕ) (g : Option ℕ) (c : ScheduleActivityTask) → Counts g c.retry.coefficient → IsActivity c → RowsPlain (suc (suc k)) (activity_rows g c)
unfolding activity_rows policy_rows
activity_plain k g c e h = let retry = plain_members (suc k) (policy_rows g c.retry) refl (policy_plain k g c.retry e h.retry) in search (span_plain, retry)

timer_back : (c : StartTimer) → IsTimer c → timer_of (object_of (timer_rows c)) ≡ Ok c
unfolding timer_of timer_rows
timer_back c h =
    let rows = timer_rows c in
    then _ (required_is id_of field.TimerId rows _ c.timer_id refl refl (id_back field.TimerId c.timer_id h.timer_id))
    (then _ (default_is span_of 0 field.Duration rows _ c.duration refl refl (span_back field.Duration c.duration h.duration))
    refl)

marker_back : (c : RecordMarker) → IsMarker c → marker_of (object_of (marker_rows c)) ≡ Ok c
unfolding marker_of marker_rows
marker_back c h =
    let rows = marker_rows c in
    then _ (default_is text_of [] field.Name rows _ c.name refl refl (text_back field.Name c.name h.name))
    (then _ (default_is text_of [] field.Details rows _ c.details refl refl (text_back field.Details c.details h.details))
    refl)

continue_back : (c : ContinueAsNew) → IsContinue c → continue_of (object_of (continue_rows c)) ≡ Ok c
unfolding continue_of continue_rows
continue_back c h =
    let rows = continue_rows c in
    then _ (optional_is text_of IsText string field.WorkflowType rows c.workflow_type refl refl (text_back field.WorkflowType) h.workflow_type)
    (then _ (optional_is id_of IsId string field.TaskQueue rows c.task_queue refl refl (id_back field.TaskQueue) h.task_queue)
    (then _ (default_is text_of [] field.Input rows _ c.input refl refl (text_back field.Input c.input h.input))
    (then _ (optional_is span_of IsSpan (λ n. number (unsigned n)) field.RunTimeout rows c.run_timeout refl refl (span_back field.RunTimeout) h.run_timeout)
    (then _ (optional_is span_of IsSpan (λ n. number (unsigned n)) field.TaskTimeout rows c.task_timeout refl refl (span_back field.TaskTimeout) h.task_timeout)
    refl))))

child_back : (c : StartChild) → IsChild c → child_of (object_of (child_rows c)) ≡ Ok c
unfolding child_of child_rows
child_back c h =
    let rows = child_rows c in
    then _ (required_is id_of field.WorkflowId rows _ c.workflow_id refl refl (id_back field.WorkflowId c.workflow_id h.workflow_id))
    (then _ (default_is text_of [] field.WorkflowType rows _ c.workflow_type refl refl (text_back field.WorkflowType c.workflow_type h.workflow_type))
    (then _ (required_is id_of field.TaskQueue rows _ c.task_queue refl refl (id_back field.TaskQueue c.task_queue h.task_queue))
    (then _ (default_is text_of [] field.Input rows _ c.input refl refl (text_back field.Input c.input h.input))
    (then _ (default_is reuse_of AllowDuplicate field.Reuse rows _ c.reuse refl refl (reuse_back field.Reuse c.reuse))
    (then _ (default_is parent_close_of Terminate field.ParentClose rows _ c.parent_close refl refl (parent_close_back field.ParentClose c.parent_close))
    (then _ (default_is span_of 0 field.RunTimeout rows _ c.run_timeout refl refl (span_back field.RunTimeout c.run_timeout h.run_timeout))
    (then _ (default_is span_of 0 field.TaskTimeout rows _ c.task_timeout refl refl (span_back field.TaskTimeout c.task_timeout h.task_timeout))
    refl)))))))

external_signal_back : (c : SignalExternal) → IsExternalSignal c → external_signal_of (object_of (external_signal_rows c)) ≡ Ok c
unfolding external_signal_of external_signal_rows
external_signal_back c h =
    let rows = external_signal_rows c in
    then _ (required_is id_of field.WorkflowId rows _ c.workflow_id refl refl (id_back field.WorkflowId c.workflow_id h.workflow_id))
    (then _ (optional_is command_run_of IsRun (λ r. string (run_text r)) field.Run rows c.run refl refl (command_run_back field.Run) h.run)
    (then _ (default_is text_of [] field.Name rows _ c.name refl refl (text_back field.Name c.name h.name))
    (then _ (default_is text_of [] field.Input rows _ c.input refl refl (text_back field.Input c.input h.input))
    refl)))

external_cancel_back : (c : RequestCancelExternal) → IsExternalCancel c → external_cancel_of (object_of (external_cancel_rows c)) ≡ Ok c
unfolding external_cancel_of external_cancel_rows
external_cancel_back c h =
    let rows = external_cancel_rows c in
    then _ (required_is id_of field.WorkflowId rows _ c.workflow_id refl refl (id_back field.WorkflowId c.workflow_id h.workflow_id))
    (then _ (optional_is command_run_of IsRun (λ r. string (run_text r)) field.Run rows c.run refl refl (command_run_back field.Run) h.run)
    refl)

-- ---- a command of any type

-- the factor, where there is one, counts for the command
abbrev pub CountsIn : Option ℕ → Command → Type 0
CountsIn None c = ⊤
CountsIn (Some f) c = CountsFor c f

counts : (g : Option ℕ) (c : ScheduleActivityTask) → CountsIn g (command.ScheduleActivityTask c) → Counts g c.retry.coefficient
counts None c h = tt
counts (Some f) c h = h

typed : (g : Option ℕ) (c : Command) (t : CommandType) → required type_of field.Type (command_tree g c) ≡ Ok t → fields_of t (command_tree g c) ≡ Ok c → command_of (command_tree g c) ≡ Ok c
unfolding command_of
typed g c t e k = then _ e k

pub command_back : (g : Option ℕ) (c : Command) → CountsIn g c → IsCommand c → command_of (command_tree g c) ≡ Ok c
unfolding command_tree activity_rows timer_rows marker_rows continue_rows child_rows external_signal_rows external_cancel_rows
command_back g (command.ScheduleActivityTask c) e h = typed g _ type.ScheduleActivityTask (required_is type_of field.Type (activity_rows g c) _ _ refl refl refl) (then _ (activity_back g c (counts g c e) h) refl)
command_back g (command.RequestCancelActivityTask n) e h =
    let rows = command_rows g (command.RequestCancelActivityTask n) in
    typed g _ type.RequestCancelActivityTask (required_is type_of field.Type rows _ _ refl refl refl) (then _ (required_is number_of field.Scheduled rows _ n refl refl refl) refl)
command_back g (command.StartTimer c) e h = typed g _ type.StartTimer (required_is type_of field.Type (timer_rows c) _ _ refl refl refl) (then _ (timer_back c h) refl)
command_back g (command.CancelTimer i) e h =
    let rows = command_rows g (command.CancelTimer i) in
    typed g _ type.CancelTimer (required_is type_of field.Type rows _ _ refl refl refl) (then _ (required_is id_of field.TimerId rows _ i refl refl (id_back field.TimerId i h)) refl)
command_back g (command.RecordMarker c) e h = typed g _ type.RecordMarker (required_is type_of field.Type (marker_rows c) _ _ refl refl refl) (then _ (marker_back c h) refl)
command_back g (command.CompleteWorkflowExecution t) e h =
    let rows = command_rows g (command.CompleteWorkflowExecution t) in
    typed g _ type.CompleteWorkflowExecution (required_is type_of field.Type rows _ _ refl refl refl) (then _ (default_is text_of [] field.Result rows _ t refl refl (text_back field.Result t h)) refl)
command_back g (command.FailWorkflowExecution t) e h =
    let rows = command_rows g (command.FailWorkflowExecution t) in
    typed g _ type.FailWorkflowExecution (required_is type_of field.Type rows _ _ refl refl refl) (then _ (default_is text_of [] field.Message rows _ t refl refl (text_back field.Message t h)) refl)
command_back g (command.CancelWorkflowExecution t) e h =
    let rows = command_rows g (command.CancelWorkflowExecution t) in
    typed g _ type.CancelWorkflowExecution (required_is type_of field.Type rows _ _ refl refl refl) (then _ (default_is text_of [] field.Details rows _ t refl refl (text_back field.Details t h)) refl)
command_back g (command.ContinueAsNewWorkflowExecution c) e h = typed g _ type.ContinueAsNewWorkflowExecution (required_is type_of field.Type (continue_rows c) _ _ refl refl refl) (then _ (continue_back c h) refl)
command_back g (command.StartChildWorkflowExecution c) e h = typed g _ type.StartChildWorkflowExecution (required_is type_of field.Type (child_rows c) _ _ refl refl refl) (then _ (child_back c h) refl)
command_back g (command.SignalExternalWorkflowExecution c) e h = typed g _ type.SignalExternalWorkflowExecution (required_is type_of field.Type (external_signal_rows c) _ _ refl refl refl) (then _ (external_signal_back c h) refl)
command_back g (command.RequestCancelExternalWorkflowExecution c) e h = typed g _ type.RequestCancelExternalWorkflowExecution (required_is type_of field.Type (external_cancel_rows c) _ _ refl refl refl) (then _ (external_cancel_back c h) refl)

-- ---- commands are plain

command_rows_plain : (k : ℕ) (g : Option ℕ) (c : Command) → CountsIn g c → IsCommand c → RowsPlain (suc (suc k)) (command_rows g c)
unfolding timer_rows marker_rows continue_rows child_rows external_signal_rows external_cancel_rows
command_rows_plain k g (command.ScheduleActivityTask c) e h = activity_plain k g c (counts g c e) h
command_rows_plain k g (command.RequestCancelActivityTask n) e h = search h
command_rows_plain k g (command.StartTimer c) e h = search span_plain
command_rows_plain k g (command.CancelTimer i) e h = search
command_rows_plain k g (command.RecordMarker c) e h = search
command_rows_plain k g (command.CompleteWorkflowExecution t) e h = search
command_rows_plain k g (command.FailWorkflowExecution t) e h = search
command_rows_plain k g (command.CancelWorkflowExecution t) e h = search
command_rows_plain k g (command.ContinueAsNewWorkflowExecution c) e h =
    let type = if_plain IsText string (suc (suc k)) (λ x l. tt) c.workflow_type h.workflow_type in
    let queue = if_plain IsId string (suc (suc k)) (λ x l. tt) c.task_queue h.task_queue in
    let run = if_plain IsSpan (λ n. number (unsigned n)) (suc (suc k)) span_plain c.run_timeout h.run_timeout in
    let task = if_plain IsSpan (λ n. number (unsigned n)) (suc (suc k)) span_plain c.task_timeout h.task_timeout in
    search (type, queue, run, task)
command_rows_plain k g (command.StartChildWorkflowExecution c) e h = search span_plain
command_rows_plain k g (command.SignalExternalWorkflowExecution c) e h = let run = if_plain IsRun (λ r. string (run_text r)) (suc (suc k)) (λ x l. tt) c.run h.run in search run
command_rows_plain k g (command.RequestCancelExternalWorkflowExecution c) e h = let run = if_plain IsRun (λ r. string (run_text r)) (suc (suc k)) (λ x l. tt) c.run h.run in search run

rising : (g : Option ℕ) (c : Command) → rise (command_rows g c) ≡ true
unfolding activity_rows timer_rows marker_rows continue_rows child_rows external_signal_rows external_cancel_rows
rising g (command.ScheduleActivityTask c) = refl
rising g (command.RequestCancelActivityTask e) = refl
rising g (command.StartTimer c) = refl
rising g (command.CancelTimer i) = refl
rising g (command.RecordMarker c) = refl
rising g (command.CompleteWorkflowExecution t) = refl
rising g (command.FailWorkflowExecution t) = refl
rising g (command.CancelWorkflowExecution t) = refl
rising g (command.ContinueAsNewWorkflowExecution c) = refl
rising g (command.StartChildWorkflowExecution c) = refl
rising g (command.SignalExternalWorkflowExecution c) = refl
rising g (command.RequestCancelExternalWorkflowExecution c) = refl

pub command_plain : (k : ℕ) (g : Option ℕ) (c : Command) → CountsIn g c → IsCommand c → IsPlain (suc (suc (suc k))) (command_tree g c)
unfolding command_tree
command_plain k g c e h = plain_members (suc (suc k)) (command_rows g c) (rising g c) (command_rows_plain k g c e h)
