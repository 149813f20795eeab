-- MEANING: whether a service has the task queues that a content names
use Rattle.std.specs.Prelude.{◌≡◌, Bool, true, not, List, drop, map, ◌&&◌, ◌||◌}
use Rattle.std.specs.List.{list_all}
use Rattle.wf_event.specs.declared.attributes.Attributes.{Attributes}
use Rattle.wf_event.specs.declared.attributes.Attributes.TheVariants.{ActivityTaskScheduled}
use Rattle.service_model_types.specs.Routing.{knows_queue}
use Rattle.service_model_types.specs.declared.content.Content.{Content}
use Rattle.service_model_types.specs.declared.content.Dispatch.{Dispatch}
use Rattle.service_model_types.specs.declared.content.Setup.{Setup}
use Rattle.service_model.specs.RunState.{ActivityRow, RunState, is_open, queue_of, state_of}
use Rattle.service_model.specs.Waiting.{all_waiting}

-- the queue of an activity, by what scheduled it
abbrev pub knows_by : Setup → Attributes → Bool
knows_by setup (ActivityTaskScheduled a) = knows_queue setup a.task_queue
knows_by setup _ = true

-- the queues of a run and of its activities in use, where it is open
abbrev pub knows_run : Setup → RunState → Bool
knows_run setup s = not (is_open s) || (knows_queue setup (queue_of s) && list_all (λ (r : ActivityRow). knows_by setup r.opened.attributes) s.activities)

-- those of some tasks
abbrev pub knows_each_of : Setup → List Dispatch → Bool
knows_each_of setup tasks = list_all (λ (d : Dispatch). knows_queue setup d.queue) tasks

-- Those of the dispatches that wait, of all runs, and of the tasks that wait to be taken. An opening puts such a task into its queue,
-- unless its dispatch waits: a dispatch turn does then.
abbrev pub knows_queues : Setup → List Dispatch → List RunState → Bool
knows_queues setup waiting runs = knows_each_of setup waiting && (list_all (knows_run setup) runs && knows_each_of setup (all_waiting setup runs))

abbrev pub knows_queues_in : Content → Bool
knows_queues_in S = knows_queues S.setup (drop S.dispatched S.dispatches) (map state_of S.runs)

-- the service has all that are named in every content for which the shard stands
abbrev pub HasItsQueues : {S : Type 0} → (S → Content → Type 0) → S → Type 0
HasItsQueues stands shard = (C : Content) → stands shard C → knows_queues_in C ≡ true
