-- PROOF: of what the kinds of event speak, by which the test of two events is cut in parts
use Rattle.wf_event.specs.declared.attributes.Attributes.{Attributes}
use Rattle.wf_event.specs.declared.attributes.Attributes.TheVariants.{WorkflowExecutionStarted, WorkflowExecutionCompleted, WorkflowExecutionFailed, WorkflowExecutionTimedOut, WorkflowExecutionCanceled, WorkflowExecutionTerminated, WorkflowExecutionContinuedAsNew, WorkflowExecutionCancelRequested, WorkflowExecutionSignaled, WorkflowTaskScheduled, WorkflowTaskStarted, WorkflowTaskCompleted, WorkflowTaskTimedOut, WorkflowTaskFailed, ActivityTaskScheduled, ActivityTaskStarted, ActivityTaskCompleted, ActivityTaskFailed, ActivityTaskTimedOut, ActivityTaskCancelRequested, ActivityTaskCanceled, TimerStarted, TimerFired, TimerCanceled, MarkerRecorded, StartChildWorkflowExecutionInitiated, StartChildWorkflowExecutionFailed, ChildWorkflowExecutionStarted, ChildWorkflowExecutionCompleted, ChildWorkflowExecutionFailed, ChildWorkflowExecutionCanceled, ChildWorkflowExecutionTimedOut, ChildWorkflowExecutionTerminated}

pub data Group : Type 0 where
  OfRun : Group
  OfTask : Group
  OfActivity : Group
  OfTimerOrMarker : Group
  OfChild : Group
  OfExternal : Group

-- of what an event speaks
unfoldable pub group : Attributes → Group
group (WorkflowExecutionStarted a) = OfRun
group (WorkflowExecutionCompleted a) = OfRun
group (WorkflowExecutionFailed a) = OfRun
group WorkflowExecutionTimedOut = OfRun
group (WorkflowExecutionCanceled a) = OfRun
group (WorkflowExecutionTerminated a) = OfRun
group (WorkflowExecutionContinuedAsNew a) = OfRun
group (WorkflowExecutionCancelRequested a) = OfRun
group (WorkflowExecutionSignaled a) = OfRun
group (WorkflowTaskScheduled a) = OfTask
group (WorkflowTaskStarted a) = OfTask
group (WorkflowTaskCompleted a) = OfTask
group (WorkflowTaskTimedOut a) = OfTask
group (WorkflowTaskFailed a) = OfTask
group (ActivityTaskScheduled a) = OfActivity
group (ActivityTaskStarted a) = OfActivity
group (ActivityTaskCompleted a) = OfActivity
group (ActivityTaskFailed a) = OfActivity
group (ActivityTaskTimedOut a) = OfActivity
group (ActivityTaskCancelRequested a) = OfActivity
group (ActivityTaskCanceled a) = OfActivity
group (TimerStarted a) = OfTimerOrMarker
group (TimerFired a) = OfTimerOrMarker
group (TimerCanceled a) = OfTimerOrMarker
group (MarkerRecorded a) = OfTimerOrMarker
group (StartChildWorkflowExecutionInitiated a) = OfChild
group (StartChildWorkflowExecutionFailed a) = OfChild
group (ChildWorkflowExecutionStarted a) = OfChild
group (ChildWorkflowExecutionCompleted a) = OfChild
group (ChildWorkflowExecutionFailed a) = OfChild
group (ChildWorkflowExecutionCanceled a) = OfChild
group (ChildWorkflowExecutionTimedOut a) = OfChild
group (ChildWorkflowExecutionTerminated a) = OfChild
group _ = OfExternal
