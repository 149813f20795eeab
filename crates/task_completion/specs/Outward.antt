-- PROOF: what commands ask of other workflows, and how much of it is pending
use Rattle.std.specs.Prelude.{◌≡◌, ℕ, ◌+◌, Bool, true, false, List, length}
use Rattle.wf_event.specs.declared.attributes.Attributes.{Attributes}
use Rattle.wf_event.specs.declared.attributes.Attributes.TheVariants.{StartChildWorkflowExecutionInitiated, SignalExternalWorkflowExecutionInitiated, RequestCancelExternalWorkflowExecutionInitiated}
use Rattle.wf_event.specs.declared.role.Class.{Class}
use Rattle.wf_event.specs.declared.role.Class.TheVariants.{Child, Signal, Cancel}
use Rattle.wf_command.specs.declared.command.StartChild.{StartChild}
use Rattle.wf_command.specs.declared.command.SignalExternal.{SignalExternal}
use Rattle.wf_command.specs.declared.command.RequestCancelExternal.{RequestCancelExternal}
use Rattle.service_model_types.specs.Limits.{used_task_timeout}
use Rattle.service_model.specs.RunState.{RunState}
use Rattle.service_model.specs.Completion.{pending_so_far}
use Rattle.task_completion.specs.declared.outward.Outward.{Outward}

abbrev pub child_asked : StartChild → Attributes
child_asked c = StartChildWorkflowExecutionInitiated (record {
  workflow_id = c.workflow_id;
  workflow_type = c.workflow_type;
  task_queue = c.task_queue;
  input = c.input;
  reuse = c.reuse;
  parent_close = c.parent_close;
  run_timeout = c.run_timeout;
  task_timeout = used_task_timeout c.task_timeout;
})

abbrev pub external_signal : SignalExternal → Attributes
external_signal c =
    SignalExternalWorkflowExecutionInitiated (record { workflow_id = c.workflow_id; run = c.run; name = c.name; input = c.input })

abbrev pub external_cancel : RequestCancelExternal → Attributes
external_cancel c = RequestCancelExternalWorkflowExecutionInitiated (record { workflow_id = c.workflow_id; run = c.run })

-- what a run asks of other workflows
abbrev pub is_outward : Class → Bool
is_outward Child = true
is_outward Signal = true
is_outward Cancel = true
is_outward _ = false

abbrev pub count_of : Class → Outward → ℕ
count_of Child o = o.children
count_of Signal o = o.signals
count_of Cancel o = o.cancels
count_of _ o = 0

abbrev pub one_more : Class → Outward → Outward
one_more Child o = record o { children = o.children + 1 }
one_more Signal o = record o { signals = o.signals + 1 }
one_more Cancel o = record o { cancels = o.cancels + 1 }
one_more _ o = o

-- the counts are those of what is pending after the facts so far
abbrev pub Counts : RunState → List Attributes → Outward → Type 0
Counts s F o = (c : Class) → is_outward c ≡ true → count_of c o ≡ length (pending_so_far c s F)
