-- PROOF: the start of a child
use Rattle.std.specs.Prelude.{Bool, false, [], ◌∷◌, None, Some, option_map}
use Rattle.wf_event_values.specs.declared.policies.ConflictPolicy.TheVariants.{Fail}
use Rattle.service_model_types.specs.declared.transfer.StartChildTransfer.{StartChildTransfer}
use Rattle.service_model_types.specs.declared.transfer.Transfer.{Transfer}
use Rattle.service_model_types.specs.declared.transfer.TransferContent.TheVariants.{ChildStarted}
use Rattle.service_model.specs.Deliveries.{accepts, child_facts, is_new}
use Rattle.service_model.specs.IdPolicy.{decide}
use Rattle.service_model.specs.Outcome.{Outcome, Runs, latest_run, next_ordinal, run_at, run_id}
use Rattle.service_model_types.specs.Limits.{used_task_timeout}
use Rattle.service_model.specs.Starts.{first_task}
use Rattle.shard_steps.specs.declared.starts.Beginning.{Beginning}

-- how its run begins
abbrev pub child_beginning : StartChildTransfer → Beginning
child_beginning c = record {
  started = record {
    workflow_id = c.workflow_id;
    workflow_type = c.workflow_type;
    task_queue = c.task_queue;
    input = c.input;
    run_timeout = c.run_timeout;
    task_timeout = used_task_timeout c.task_timeout;
    continued_from = None;
    parent = Some (record { run = c.parent_run; event = c.initiated });
    execution_deadline = None;
  };
  request_id = None;
  facts = first_task c.task_queue ∷ [];
}

-- whether the policies let it have a new run of its workflow ID
abbrev pub is_free_for : Runs → StartChildTransfer → Bool
is_free_for R c = is_new (decide (option_map (λ n. (run_at R n).status) (latest_run R.states c.workflow_id)) false c.reuse Fail)

-- what its start does then
abbrev pub starts_child : Runs → Transfer → StartChildTransfer → Outcome
starts_child R t c = accepts t None (Some (child_facts c)) (record {
  to = c.parent_run.shard;
  content = ChildStarted (record { parent_run = c.parent_run; initiated = c.initiated; run = run_id R.setup (next_ordinal R) });
} ∷ [])
