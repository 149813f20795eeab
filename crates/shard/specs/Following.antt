-- PROOF: the run that follows one which continues as new
use Rattle.std.specs.Prelude.{ℕ, List, [], ◌∷◌, Option, None, Some, unwrap_or}
use Rattle.wf_event.specs.declared.payloads.WorkflowExecutionStarted.{WorkflowExecutionStarted as StartedAttributes}
use Rattle.wf_event_values.specs.Run.{Run}
use Rattle.wf_event_values.specs.declared.policies.Cause.{Cause}
use Rattle.wf_command.specs.declared.command.Command.{Command}
use Rattle.wf_command.specs.declared.command.ContinueAsNew.{ContinueAsNew}
use Rattle.service_model.specs.Journal.{latest}
use Rattle.service_model.specs.Starts.{first_task}
use Rattle.service_model.specs.Tasks.{continue_part, started_behind}
use Rattle.shard_steps.specs.declared.starts.Beginning.{Beginning}

-- how it begins
abbrev pub following : Run → ContinueAsNew → StartedAttributes → Option (List ℕ) → Beginning
following from c a request = record {
  started = started_behind from c a;
  request_id = request;
  facts = first_task (unwrap_or c.task_queue a.task_queue) ∷ [];
}

-- what a completion's commands say about it, where none has a fault
abbrev pub continuing : Option Cause → List Command → Option ContinueAsNew
continuing None commands = latest continue_part commands
continuing (Some cause) commands = None
