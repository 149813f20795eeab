-- MEANING: commands as JSON values, each with every key of its type
use Rattle.std.specs.Prelude.{ℕ, List, [], ◌∷◌, codes, map, Option, Some, None}
use Rattle.serde_json.specs.Data.{Data, string, array}
use Rattle.serde_json.specs.View.{items_of}
use Rattle.wf_event_values.specs.Names.{reuse_name, parent_close_name}
use Rattle.wf_event.specs.declared.payloads.PolicyFields.{PolicyFields}
use Rattle.wf_command.specs.declared.command.Command.{Command}
use Rattle.wf_command.specs.declared.command.Command.TheVariants as command
use Rattle.wf_command.specs.declared.command.ScheduleActivityTask.{ScheduleActivityTask}
use Rattle.wf_command.specs.declared.command.StartTimer.{StartTimer}
use Rattle.wf_command.specs.declared.command.RecordMarker.{RecordMarker}
use Rattle.wf_command.specs.declared.command.ContinueAsNew.{ContinueAsNew}
use Rattle.wf_command.specs.declared.command.StartChild.{StartChild}
use Rattle.wf_command.specs.declared.command.SignalExternal.{SignalExternal}
use Rattle.wf_command.specs.declared.command.RequestCancelExternal.{RequestCancelExternal}
use Rattle.wire_record_rows.specs.Rows.{Row, text, count, flag, run, whole, if_text, if_count, if_run, object_of}

-- a list of texts
abbrev pub text_list : List (List ℕ) → Data
text_list texts = array (items_of (map string texts))

-- a coefficient, unless a factor stands in its place
abbrev pub unless_factor : Option ℕ → ℕ → Option ℕ
unless_factor None c = Some c
unless_factor (Some f) c = None

-- a retry policy, by its coefficient or by a factor in its place
unfoldable pub policy_rows : Option ℕ → PolicyFields → List Row
policy_rows factor p =
    count (codes "attempts") p.attempts ∷ if_count (codes "coefficient") (unless_factor factor p.coefficient)
    ∷ if_count (codes "factor") factor
    ∷ count (codes "initial") p.initial ∷ count (codes "maximum") p.maximum ∷ whole (codes "non_retryable") (text_list p.non_retryable) ∷ []

unfoldable pub activity_rows : Option ℕ → ScheduleActivityTask → List Row
activity_rows factor c =
    text (codes "activity_id") c.activity_id ∷ text (codes "activity_type") c.activity_type ∷ count (codes "heartbeat") c.heartbeat
    ∷ text (codes "input") c.input ∷ whole (codes "retry") (object_of (policy_rows factor c.retry))
    ∷ count (codes "schedule_to_close") c.schedule_to_close
    ∷ count (codes "schedule_to_start") c.schedule_to_start ∷ count (codes "start_to_close") c.start_to_close
    ∷ text (codes "task_queue") c.task_queue
    ∷ text (codes "type") (codes "ScheduleActivityTask") ∷ []

unfoldable pub timer_rows : StartTimer → List Row
timer_rows c =
    count (codes "duration") c.duration ∷ text (codes "timer_id") c.timer_id ∷ text (codes "type") (codes "StartTimer") ∷ []

unfoldable pub marker_rows : RecordMarker → List Row
marker_rows c =
    text (codes "details") c.details ∷ text (codes "name") c.name ∷ text (codes "type") (codes "RecordMarker") ∷ []

unfoldable pub continue_rows : ContinueAsNew → List Row
continue_rows c =
    text (codes "input") c.input ∷ if_count (codes "run_timeout") c.run_timeout ∷ if_text (codes "task_queue") c.task_queue
    ∷ if_count (codes "task_timeout") c.task_timeout ∷ text (codes "type") (codes "ContinueAsNewWorkflowExecution")
    ∷ if_text (codes "workflow_type") c.workflow_type ∷ []

unfoldable pub child_rows : StartChild → List Row
child_rows c =
    text (codes "input") c.input ∷ text (codes "parent_close") (parent_close_name c.parent_close)
    ∷ text (codes "reuse") (reuse_name c.reuse)
    ∷ count (codes "run_timeout") c.run_timeout ∷ text (codes "task_queue") c.task_queue ∷ count (codes "task_timeout") c.task_timeout
    ∷ text (codes "type") (codes "StartChildWorkflowExecution") ∷ text (codes "workflow_id") c.workflow_id
    ∷ text (codes "workflow_type") c.workflow_type ∷ []

unfoldable pub external_signal_rows : SignalExternal → List Row
external_signal_rows c =
    text (codes "input") c.input ∷ text (codes "name") c.name ∷ if_run (codes "run") c.run
    ∷ text (codes "type") (codes "SignalExternalWorkflowExecution") ∷ text (codes "workflow_id") c.workflow_id ∷ []

unfoldable pub external_cancel_rows : RequestCancelExternal → List Row
external_cancel_rows c =
    if_run (codes "run") c.run ∷ text (codes "type") (codes "RequestCancelExternalWorkflowExecution")
    ∷ text (codes "workflow_id") c.workflow_id ∷ []

-- a command of one field
abbrev pub one_text : List ℕ → List ℕ → List ℕ → List Row
one_text key t type = text key t ∷ text (codes "type") type ∷ []

abbrev pub cancel_activity_rows : ℕ → List Row
cancel_activity_rows event = count (codes "scheduled") event ∷ text (codes "type") (codes "RequestCancelActivityTask") ∷ []

-- the rows of a command; a factor may stand in the place of its policy's coefficient
abbrev pub command_rows : Option ℕ → Command → List Row
command_rows factor (command.ScheduleActivityTask c) = activity_rows factor c
command_rows factor (command.RequestCancelActivityTask event) = cancel_activity_rows event
command_rows factor (command.StartTimer c) = timer_rows c
command_rows factor (command.CancelTimer id) = one_text (codes "timer_id") id (codes "CancelTimer")
command_rows factor (command.RecordMarker c) = marker_rows c
command_rows factor (command.CompleteWorkflowExecution t) = one_text (codes "result") t (codes "CompleteWorkflowExecution")
command_rows factor (command.FailWorkflowExecution t) = one_text (codes "message") t (codes "FailWorkflowExecution")
command_rows factor (command.CancelWorkflowExecution t) = one_text (codes "details") t (codes "CancelWorkflowExecution")
command_rows factor (command.ContinueAsNewWorkflowExecution c) = continue_rows c
command_rows factor (command.StartChildWorkflowExecution c) = child_rows c
command_rows factor (command.SignalExternalWorkflowExecution c) = external_signal_rows c
command_rows factor (command.RequestCancelExternalWorkflowExecution c) = external_cancel_rows c

-- a command
unfoldable pub command_tree : Option ℕ → Command → Data
command_tree factor c = object_of (command_rows factor c)

-- commands, their policies by coefficients
abbrev pub command_list : List Command → Data
command_list cs = array (items_of (map (command_tree None) cs))
