-- MEANING: by what an operation names its shard
use Rattle.std.specs.Prelude.{ℕ, List}
use Rattle.service_model_types.specs.declared.home.Home.{Home as HomeRead}
use Rattle.service_model_types.specs.declared.home.Home.TheVariants as read
use Rattle.service_model_types.specs.declared.request.Operation.{Operation}
use Rattle.service_model_types.specs.declared.request.Operation.TheVariants as operation
use Rattle.service_model_types.specs.declared.request.TakenTask.{TakenTask}

-- a workflow ID, the token of a task that was taken, or nothing: such an operation is served for a call that names its
-- shard
pub data Home : Type 0 where
  Workflow : List ℕ → Home
  Token : TakenTask → Home
  Part : Home

abbrev pub home : Operation → Home
home (operation.Start q) = Workflow q.workflow_id
home (operation.Signal q) = Workflow q.workflow_id
home (operation.SignalWithStart q) = Workflow q.workflow_id
home (operation.RequestCancel q) = Workflow q.workflow_id
home (operation.Terminate q) = Workflow q.workflow_id
home (operation.History q) = Workflow q.workflow_id
home (operation.Describe q) = Workflow q.workflow_id
home (operation.CompleteWorkflowTask q) = Token q.task
home (operation.FailWorkflowTask q) = Token q.task
home (operation.CompleteActivity q) = Token q.task
home (operation.FailActivity q) = Token q.task
home (operation.CancelActivity q) = Token q.task
home (operation.Heartbeat q) = Token q.task
home _ = Part

-- what a home that was read of an operation says
abbrev pub home_said : HomeRead → Home
home_said (read.Workflow id) = Workflow id.now
home_said (read.Token t) = Token t
home_said read.Part = Part
