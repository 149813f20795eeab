-- MEANING: the names that lines, replies and records use
use Rattle.std.specs.Prelude.{List, ℕ, codes}
use Rattle.wf_event_values.specs.declared.field.Field.{Field}
use Rattle.wf_event_values.specs.declared.field.Field.TheVariants as field
use Rattle.wf_event_values.specs.declared.refusal.Refusal.{Refusal}
use Rattle.wf_event_values.specs.declared.refusal.Refusal.TheVariants as refusal
use Rattle.wf_event_values.specs.declared.policies.CancelSource.{CancelSource}
use Rattle.wf_event_values.specs.declared.policies.CancelSource.TheVariants as source
use Rattle.wf_event_values.specs.declared.policies.Cause.{Cause}
use Rattle.wf_event_values.specs.declared.policies.Cause.TheVariants as cause
use Rattle.wf_event_values.specs.declared.policies.RetryState.{RetryState}
use Rattle.wf_event_values.specs.declared.policies.RetryState.TheVariants as state
use Rattle.wf_event_values.specs.declared.policies.TimeoutKind.{TimeoutKind}
use Rattle.wf_event_values.specs.declared.policies.TimeoutKind.TheVariants as timeout
use Rattle.wf_event_values.specs.declared.policies.ReusePolicy.{ReusePolicy}
use Rattle.wf_event_values.specs.declared.policies.ReusePolicy.TheVariants as reuse
use Rattle.wf_event_values.specs.declared.policies.ConflictPolicy.{ConflictPolicy}
use Rattle.wf_event_values.specs.declared.policies.ConflictPolicy.TheVariants as conflict
use Rattle.wf_event_values.specs.declared.policies.ParentClosePolicy.{ParentClosePolicy}
use Rattle.wf_event_values.specs.declared.policies.ParentClosePolicy.TheVariants as policy
use Rattle.wf_event_values.specs.declared.policies.Status.{Status}
use Rattle.wf_event_values.specs.declared.policies.Status.TheVariants as status
use Rattle.wf_event_values.specs.declared.policies.DeadlineClass.{DeadlineClass}
use Rattle.wf_event_values.specs.declared.policies.DeadlineClass.TheVariants as class
use Rattle.wf_event_values.specs.declared.policies.TaskKind.{TaskKind}
use Rattle.wf_event_values.specs.declared.policies.TaskKind.TheVariants as task

-- a field's name
abbrev pub field_name : Field → List ℕ
field_name field.Line = codes "line"
field_name field.Json = codes "json"
field_name field.Lane = codes "lane"
field_name field.Op = codes "op"
field_name field.At = codes "at"
field_name field.WorkflowId = codes "workflow_id"
field_name field.WorkflowType = codes "workflow_type"
field_name field.TaskQueue = codes "task_queue"
field_name field.Input = codes "input"
field_name field.RequestId = codes "request_id"
field_name field.Reuse = codes "reuse"
field_name field.Conflict = codes "conflict"
field_name field.RunTimeout = codes "run_timeout"
field_name field.TaskTimeout = codes "task_timeout"
field_name field.ExecutionTimeout = codes "execution_timeout"
field_name field.Run = codes "run"
field_name field.Name = codes "name"
field_name field.SignalInput = codes "signal_input"
field_name field.Reason = codes "reason"
field_name field.Token = codes "token"
field_name field.Commands = codes "commands"
field_name field.Message = codes "message"
field_name field.Result = codes "result"
field_name field.ErrorType = codes "error_type"
field_name field.NonRetryable = codes "non_retryable"
field_name field.Details = codes "details"
field_name field.Shard = codes "shard"
field_name field.From = codes "from"
field_name field.To = codes "to"
field_name field.Stop = codes "stop"
field_name field.Type = codes "type"
field_name field.ActivityId = codes "activity_id"
field_name field.ActivityType = codes "activity_type"
field_name field.ScheduleToStart = codes "schedule_to_start"
field_name field.StartToClose = codes "start_to_close"
field_name field.ScheduleToClose = codes "schedule_to_close"
field_name field.Heartbeat = codes "heartbeat"
field_name field.Retry = codes "retry"
field_name field.Attempts = codes "attempts"
field_name field.Coefficient = codes "coefficient"
field_name field.Factor = codes "factor"
field_name field.Initial = codes "initial"
field_name field.Maximum = codes "maximum"
field_name field.Scheduled = codes "scheduled"
field_name field.TimerId = codes "timer_id"
field_name field.Duration = codes "duration"
field_name field.ParentClose = codes "parent_close"
field_name field.Shards = codes "shards"
field_name field.Passes = codes "passes"
field_name field.Service = codes "service"
field_name field.Queues = codes "queues"
field_name field.Capacity = codes "capacity"
field_name field.Records = codes "records"
field_name field.Retention = codes "retention"

-- who asked for a cancellation, by name
abbrev pub cancel_source_name : CancelSource → List ℕ
cancel_source_name source.Client = codes "client"
cancel_source_name source.Parent = codes "parent"
cancel_source_name source.External = codes "external"

-- a cause, by name
abbrev pub cause_name : Cause → List ℕ
cause_name cause.UnhandledCommand = codes "UnhandledCommand"
cause_name cause.CommandAfterClose = codes "CommandAfterClose"
cause_name cause.WorkflowWorkerUnhandledFailure = codes "WorkflowWorkerUnhandledFailure"
cause_name cause.BadScheduleActivityAttributes = codes "BadScheduleActivityAttributes"
cause_name cause.ScheduleActivityDuplicateId = codes "ScheduleActivityDuplicateId"
cause_name cause.PendingActivitiesLimitExceeded = codes "PendingActivitiesLimitExceeded"
cause_name cause.BadRequestCancelActivityAttributes = codes "BadRequestCancelActivityAttributes"
cause_name cause.BadStartTimerAttributes = codes "BadStartTimerAttributes"
cause_name cause.StartTimerDuplicateId = codes "StartTimerDuplicateId"
cause_name cause.BadCancelTimerAttributes = codes "BadCancelTimerAttributes"
cause_name cause.BadContinueAsNewAttributes = codes "BadContinueAsNewAttributes"
cause_name cause.BadStartChildExecutionAttributes = codes "BadStartChildExecutionAttributes"
cause_name cause.PendingChildWorkflowsLimitExceeded = codes "PendingChildWorkflowsLimitExceeded"
cause_name cause.PendingSignalsLimitExceeded = codes "PendingSignalsLimitExceeded"
cause_name cause.PendingRequestCancelLimitExceeded = codes "PendingRequestCancelLimitExceeded"
cause_name cause.WorkflowAlreadyExists = codes "WorkflowAlreadyExists"
cause_name cause.ExternalWorkflowExecutionNotFound = codes "ExternalWorkflowExecutionNotFound"

-- why an activity was not tried again, by name
abbrev pub retry_state_name : RetryState → List ℕ
retry_state_name state.CancelRequested = codes "CancelRequested"
retry_state_name state.NonRetryableFailure = codes "NonRetryableFailure"
retry_state_name state.MaximumAttemptsReached = codes "MaximumAttemptsReached"
retry_state_name state.Timeout = codes "Timeout"

-- a limit of an activity's time, by name
abbrev pub timeout_name : TimeoutKind → List ℕ
timeout_name timeout.ScheduleToStart = codes "ScheduleToStart"
timeout_name timeout.StartToClose = codes "StartToClose"
timeout_name timeout.ScheduleToClose = codes "ScheduleToClose"
timeout_name timeout.Heartbeat = codes "Heartbeat"

-- a reuse policy, by name
abbrev pub reuse_name : ReusePolicy → List ℕ
reuse_name reuse.AllowDuplicate = codes "AllowDuplicate"
reuse_name reuse.AllowDuplicateFailedOnly = codes "AllowDuplicateFailedOnly"
reuse_name reuse.RejectDuplicate = codes "RejectDuplicate"

-- a conflict policy, by name
abbrev pub conflict_name : ConflictPolicy → List ℕ
conflict_name conflict.Fail = codes "Fail"
conflict_name conflict.UseExisting = codes "UseExisting"
conflict_name conflict.TerminateExisting = codes "TerminateExisting"

-- a parent close policy, by name
abbrev pub parent_close_name : ParentClosePolicy → List ℕ
parent_close_name policy.Terminate = codes "Terminate"
parent_close_name policy.Abandon = codes "Abandon"
parent_close_name policy.RequestCancel = codes "RequestCancel"

-- a status, by name
abbrev pub status_name : Status → List ℕ
status_name status.Running = codes "Running"
status_name status.Completed = codes "Completed"
status_name status.Failed = codes "Failed"
status_name status.Canceled = codes "Canceled"
status_name status.Terminated = codes "Terminated"
status_name status.ContinuedAsNew = codes "ContinuedAsNew"
status_name status.TimedOut = codes "TimedOut"

-- a class of deadline, by name
abbrev pub class_name : DeadlineClass → List ℕ
class_name class.ExecutionTimeout = codes "execution_timeout"
class_name class.RunTimeout = codes "run_timeout"
class_name class.WorkflowTask = codes "workflow_task"
class_name class.ScheduleToClose = codes "schedule_to_close"
class_name class.ScheduleToStart = codes "schedule_to_start"
class_name class.Heartbeat = codes "heartbeat"
class_name class.StartToClose = codes "start_to_close"
class_name class.RetryReady = codes "retry_ready"
class_name class.UserTimer = codes "user_timer"
class_name class.Retention = codes "retention"

-- a kind of task, by name
abbrev pub task_kind_name : TaskKind → List ℕ
task_kind_name task.Workflow = codes "workflow"
task_kind_name task.Activity = codes "activity"

-- a refusal's name
abbrev pub refusal_name : Refusal → List ℕ
refusal_name (refusal.InvalidArgument f) = codes "InvalidArgument"
refusal_name refusal.NotFound = codes "NotFound"
refusal_name (refusal.AlreadyStarted r) = codes "AlreadyStarted"
refusal_name refusal.CancellationAlreadyRequested = codes "CancellationAlreadyRequested"
refusal_name refusal.InvalidToken = codes "InvalidToken"
refusal_name refusal.Busy = codes "Busy"
refusal_name refusal.NoMemory = codes "NoMemory"
refusal_name refusal.UnknownTaskQueue = codes "UnknownTaskQueue"
refusal_name refusal.QueueFull = codes "QueueFull"
refusal_name (refusal.BadRecord n) = codes "BadRecord"

-- a refusal's number
abbrev pub refusal_number : Refusal → ℕ
refusal_number (refusal.InvalidArgument f) = 1
refusal_number refusal.NotFound = 2
refusal_number (refusal.AlreadyStarted r) = 3
refusal_number refusal.CancellationAlreadyRequested = 4
refusal_number refusal.InvalidToken = 5
refusal_number refusal.Busy = 6
refusal_number refusal.NoMemory = 7
refusal_number refusal.UnknownTaskQueue = 8
refusal_number refusal.QueueFull = 9
refusal_number (refusal.BadRecord n) = 10
