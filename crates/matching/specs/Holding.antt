-- MEANING: what the queues hold once hints were pushed to them one after another by one that is alone: a list of hints for each queue
use Rattle.std.specs.Prelude.{ℕ, ◌*◌, List, [], ◌∷◌, ◌++◌, length, nat_lt, if◌then◌else◌, replicate, slice_index_or, slice_set, Option, None, Some, Result, Ok, Err}
use Rattle.wf_event_values.specs.declared.refusal.Refusal.{Refusal}
use Rattle.wf_event_values.specs.declared.refusal.Refusal.TheVariants.{QueueFull, UnknownTaskQueue}
use Rattle.service_model_types.specs.declared.content.Dispatch.{Dispatch}
use Rattle.service_model_types.specs.declared.request.Hint.{Hint}
use Rattle.matching.specs.Named.{place_in, slot_of}

-- a hint after all that wait in the queue of a slot, where there is room
abbrev pub pushed_at : ℕ → List (List Hint) → ℕ → Hint → Result (List (List Hint)) Refusal
pushed_at capacity all slot hint =
    let waiting = slice_index_or all slot [] in
    if nat_lt (length waiting) capacity then Ok (slice_set all slot (waiting ++ hint ∷ [])) else Err QueueFull

-- a hint is pushed to the queue of a place, if there is one
abbrev pub pushed : ℕ → List (List Hint) → Option ℕ → Hint → Result (List (List Hint)) Refusal
pushed capacity all None hint = Err UnknownTaskQueue
pushed capacity all (Some place) hint = pushed_at capacity all (slot_of place hint.kind) hint

-- what follows a push, unless it was refused
abbrev pub then_push : Result (List (List Hint)) Refusal → (List (List Hint) → Result (List (List Hint)) Refusal)
    → Result (List (List Hint)) Refusal
then_push (Err refusal) rest = Err refusal
then_push (Ok all) rest = rest all

-- dispatches are pushed one after another, till one is refused
abbrev pub all_pushed : List (List ℕ) → ℕ → List (List Hint) → List Dispatch → Result (List (List Hint)) Refusal
all_pushed names capacity all [] = Ok all
all_pushed names capacity all (d ∷ ds) =
    then_push (pushed capacity all (place_in names d.queue) d.hint) (λ more. all_pushed names capacity more ds)

-- what queues of these names, each with that capacity, hold once these dispatches were pushed
abbrev pub held_by : List (List ℕ) → ℕ → List Dispatch → Result (List (List Hint)) Refusal
held_by names capacity ds = all_pushed names capacity (replicate (2 * length names) []) ds
