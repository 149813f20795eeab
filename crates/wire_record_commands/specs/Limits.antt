-- MEANING: the commands that there are: every text, number and run within the limits of its type
use Rattle.std.specs.Prelude.{◌≡◌, ℕ, ◌<◌, ◌≤◌, ◌^◌, List, length, Option, IfSome, IsUtf8}
use Rattle.std.specs.List.{AllByRecursion}
use Rattle.wf_event_values.specs.Limits.{IsTextLength, IsIdLength, IsSpan}
use Rattle.wf_event_values.specs.Run.{Run, IsRun}
use Rattle.wf_event.specs.declared.payloads.PolicyFields.{PolicyFields}
use Rattle.wf_command.specs.declared.command.Command.{Command}
use Rattle.wf_command.specs.declared.command.Command.TheVariants as command
use Rattle.wf_command.specs.declared.command.ScheduleActivityTask.{ScheduleActivityTask}
use Rattle.wf_command.specs.declared.command.StartTimer.{StartTimer}
use Rattle.wf_command.specs.declared.command.RecordMarker.{RecordMarker}
use Rattle.wf_command.specs.declared.command.ContinueAsNew.{ContinueAsNew}
use Rattle.wf_command.specs.declared.command.StartChild.{StartChild}
use Rattle.wf_command.specs.declared.command.SignalExternal.{SignalExternal}
use Rattle.wf_command.specs.declared.command.RequestCancelExternal.{RequestCancelExternal}

-- a text's length, and that its bytes are UTF-8
abbrev pub IsText : List ℕ → Type 0
IsText t = IsTextLength (length t) × IsUtf8 t

abbrev pub IsId : List ℕ → Type 0
IsId t = IsIdLength (length t) × IsUtf8 t

abbrev pub IsNumber : ℕ → Type 0
IsNumber n = n < 2 ^ 64

pub record IsPolicy (p : PolicyFields) : Type 0 where
  pub attempts : IsNumber p.attempts
  pub coefficient : IsNumber p.coefficient
  pub initial : IsNumber p.initial
  pub maximum : IsNumber p.maximum
  pub non_retryable : AllByRecursion IsText p.non_retryable

pub record IsActivity (c : ScheduleActivityTask) : Type 0 where
  pub activity_id : IsId c.activity_id
  pub activity_type : IsText c.activity_type
  pub task_queue : IsId c.task_queue
  pub input : IsText c.input
  pub schedule_to_start : IsSpan c.schedule_to_start
  pub start_to_close : IsSpan c.start_to_close
  pub schedule_to_close : IsSpan c.schedule_to_close
  pub heartbeat : IsSpan c.heartbeat
  pub retry : IsPolicy c.retry

pub record IsTimer (c : StartTimer) : Type 0 where
  pub timer_id : IsId c.timer_id
  pub duration : IsSpan c.duration

pub record IsMarker (c : RecordMarker) : Type 0 where
  pub name : IsText c.name
  pub details : IsText c.details

pub record IsContinue (c : ContinueAsNew) : Type 0 where
  pub workflow_type : IfSome c.workflow_type IsText
  pub task_queue : IfSome c.task_queue IsId
  pub input : IsText c.input
  pub run_timeout : IfSome c.run_timeout IsSpan
  pub task_timeout : IfSome c.task_timeout IsSpan

pub record IsChild (c : StartChild) : Type 0 where
  pub workflow_id : IsId c.workflow_id
  pub workflow_type : IsText c.workflow_type
  pub task_queue : IsId c.task_queue
  pub input : IsText c.input
  pub run_timeout : IsSpan c.run_timeout
  pub task_timeout : IsSpan c.task_timeout

pub record IsExternalSignal (c : SignalExternal) : Type 0 where
  pub workflow_id : IsId c.workflow_id
  pub run : IfSome c.run IsRun
  pub name : IsText c.name
  pub input : IsText c.input

pub record IsExternalCancel (c : RequestCancelExternal) : Type 0 where
  pub workflow_id : IsId c.workflow_id
  pub run : IfSome c.run IsRun

abbrev pub IsCommand : Command → Type 0
IsCommand (command.ScheduleActivityTask c) = IsActivity c
IsCommand (command.RequestCancelActivityTask event) = IsNumber event
IsCommand (command.StartTimer c) = IsTimer c
IsCommand (command.CancelTimer id) = IsId id
IsCommand (command.RecordMarker c) = IsMarker c
IsCommand (command.CompleteWorkflowExecution t) = IsText t
IsCommand (command.FailWorkflowExecution t) = IsText t
IsCommand (command.CancelWorkflowExecution t) = IsText t
IsCommand (command.ContinueAsNewWorkflowExecution c) = IsContinue c
IsCommand (command.StartChildWorkflowExecution c) = IsChild c
IsCommand (command.SignalExternalWorkflowExecution c) = IsExternalSignal c
IsCommand (command.RequestCancelExternalWorkflowExecution c) = IsExternalCancel c
