-- PROOF: what a shard issued and has not counted yet, and what of it is looked up after the step that issued it
use Rattle.std.specs.Prelude.{ℕ, ◌+◌, List, [], ◌++◌, drop, filter_map, slice_get, slice_index_or, option_to_list, Option, None, Some, option_and_then}
use Rattle.service_model_types.specs.declared.content.Content.{Content}
use Rattle.service_model_types.specs.declared.content.Dispatch.{Dispatch}
use Rattle.service_model_types.specs.declared.content.Setup.{Setup}
use Rattle.service_model.specs.Counts.{acknowledges, dispatch_answer}
use Rattle.service_model.specs.Issued.{task_dispatch, row_dispatch}
use Rattle.service_model.specs.Outcome.{Outcome, CountsDispatch, answered}
use Rattle.service_model.specs.RunState.{RunState, no_run}
use Rattle.service_model.specs.Tasks.{pending_row}
use Rattle.transfer.specs.Logs.{Waiting, count_issued, with_issued}
use Rattle.shard_issued.specs.declared.changed.Changed.{Changed}

-- the dispatches of a content that wait
abbrev pub waiting_in : Content → Waiting Dispatch
waiting_in S = record { items = drop S.dispatched S.dispatches; counted = S.dispatched }

-- the dispatches as they are kept: those that were looked up, and what the others are found by; of each run how many
-- events it showed when its dispatches were last looked up, and the activity whose attempt the last step queued again
pub record DispatchesView : Type 0 where
  pub waiting : Waiting Dispatch
  pub shown : List ℕ
  pub ready : Option ℕ
  pub room : ℕ

-- the dispatch of the pending activity that this event scheduled
abbrev pub queued_dispatch : Setup → ℕ → RunState → ℕ → Option Dispatch
queued_dispatch setup run s id = option_and_then (row_dispatch setup run) (pending_row s id)

-- the dispatches that a step issued for the run with this ordinal, where the run had shown so many events before, and
-- the step queued the attempt of this activity again
abbrev pub issued_since : Setup → ℕ → Option ℕ → ℕ → RunState → List Dispatch
issued_since setup shown ready run s =
    filter_map (task_dispatch setup run) (drop shown s.shown) ++ option_to_list (option_and_then (queued_dispatch setup run s) ready)

-- the dispatches that a step issued for the run with this ordinal that it made
abbrev pub issued_first : Setup → ℕ → RunState → List Dispatch
issued_first setup run s = filter_map (task_dispatch setup run) s.shown

-- the dispatches of the run to which the last step added, if it added to one
abbrev pub of_grown : Setup → DispatchesView → Option ℕ → List RunState → List Dispatch
of_grown setup d None runs = []
of_grown setup d (Some n) runs = issued_since setup (slice_index_or d.shown n 0) d.ready (n + 1) (slice_index_or runs n no_run)

-- the dispatches of the run that the last step made, if it made one
abbrev pub of_made : Setup → Option ℕ → List RunState → List Dispatch
of_made setup None runs = []
of_made setup (Some n) runs = issued_first setup (n + 1) (slice_index_or runs n no_run)

-- all that waits, where these runs changed last
abbrev pub all_waiting : Setup → DispatchesView → Changed → List RunState → Waiting Dispatch
all_waiting setup d changed runs =
    with_issued (with_issued d.waiting (of_grown setup d changed.grown runs)) (of_made setup changed.made runs)

-- the first that waits, under its number
abbrev pub next_waiting : Waiting Dispatch → Outcome
next_waiting w = answered (dispatch_answer (w.counted + 1) (slice_get w.items 0))

-- the dispatch of that number is counted, where it is the first that waits
abbrev pub count_waiting : Waiting Dispatch → ℕ → Outcome
count_waiting w number = acknowledges (count_issued w) w.counted number CountsDispatch
