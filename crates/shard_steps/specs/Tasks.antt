-- PROOF: the end of a workflow task
use Rattle.std.specs.Prelude.{Option, None, Some}
use Rattle.wf_event_values.specs.declared.policies.Cause.{Cause}
use Rattle.service_model_types.specs.declared.answer.Answer.{Answer}
use Rattle.service_model_types.specs.declared.answer.Answer.TheVariants.{Completed, TaskFailed}

-- what the end of a workflow task answers, by its fault
abbrev pub ended : Option Cause → Answer
ended None = Completed
ended (Some cause) = TaskFailed cause
