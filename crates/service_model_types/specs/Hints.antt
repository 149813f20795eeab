-- MEANING: what a hint names
use Rattle.service_model_types.specs.declared.request.Hint.{Hint}
use Rattle.service_model_types.specs.declared.request.WaitingTask.{WaitingTask}

-- the task that a hint names on its shard
abbrev pub task_of : Hint → WaitingTask
task_of h = record { kind = h.kind; run = h.run; event = h.event; attempt = h.attempt }
