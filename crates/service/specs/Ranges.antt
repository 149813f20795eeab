-- MEANING: the first setting that is out of its range
use Rattle.std.specs.Prelude.{ℕ, ◌^◌, ◌&&◌, Bool, true, not, nat_le, nat_lt, bytes_eq, length, if◌then◌else◌, List, [], ◌∷◌, Result, Ok, Err}
use Rattle.std.specs.List.{list_any}
use Rattle.wf_event_values.specs.declared.field.Field.TheVariants.{Shards, Passes, Service, Queues, Capacity, Retention}
use Rattle.wf_event_values.specs.declared.refusal.Refusal.{Refusal}
use Rattle.wf_event_values.specs.declared.refusal.Refusal.TheVariants.{InvalidArgument}
use Rattle.service_model_types.specs.declared.settings.Settings.{Settings}
use Rattle.service_model_types.specs.Limits.{most_capacity, most_passes, most_queues, most_shards, service_numbers}

abbrev pub stands_in : List ℕ → List (List ℕ) → Bool
stands_in name names = list_any (λ other. bytes_eq other name) names

-- whether no name stands twice
abbrev pub are_different : List (List ℕ) → Bool
are_different [] = true
are_different (name ∷ names) = not (stands_in name names) && are_different names

abbrev pub are_queues : List (List ℕ) → Bool
are_queues names = nat_le 1 (length names) && nat_le (length names) most_queues && are_different names

abbrev pub range_fault : Settings → Result (Unit {0}) Refusal
range_fault K =
    if nat_le 1 K.shards && nat_le K.shards most_shards
    then (if nat_le 1 K.passes && nat_le K.passes most_passes
    then (if nat_lt K.service service_numbers
    then (if are_queues K.queues
    then (if nat_le 1 K.capacity && nat_le K.capacity most_capacity
    then (if nat_le K.retention (10 ^ 12) then Ok tt else Err (InvalidArgument Retention))
    else Err (InvalidArgument Capacity))
    else Err (InvalidArgument Queues))
    else Err (InvalidArgument Service))
    else Err (InvalidArgument Passes))
    else Err (InvalidArgument Shards)
