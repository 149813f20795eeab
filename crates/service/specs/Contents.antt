-- MEANING: the shards of a service: what each is opened with, which calls are refused before any is entered, and on
-- which one the others are served
use Rattle.std.specs.Prelude.{ℕ, ◌%◌, ◌&&◌, nat_le, nat_lt, Bool, if◌then◌else◌, List, length, map, Option, None, Some}
use Rattle.std.specs.List.{range_with_len}
use Rattle.std.specs.Option.{option_or}
use Rattle.wf_event_values.specs.declared.field.Field.TheVariants as field
use Rattle.wf_event_values.specs.declared.refusal.Refusal.{Refusal}
use Rattle.wf_event_values.specs.declared.refusal.Refusal.TheVariants.{InvalidArgument, InvalidToken}
use Rattle.service_model_types.specs.declared.call.StepCall.{StepCall}
use Rattle.service_model_types.specs.declared.call.StepCall.TheVariants as call
use Rattle.service_model_types.specs.declared.content.Content.{Content}
use Rattle.service_model_types.specs.declared.content.Setup.{Setup}
use Rattle.service_model_types.specs.declared.request.Operation.{Operation}
use Rattle.service_model_types.specs.declared.request.Operation.TheVariants as operation
use Rattle.service_model_types.specs.declared.request.Request.{Request}
use Rattle.service_model_types.specs.declared.request.TakenTask.{TakenTask}
use Rattle.service_model_types.specs.declared.settings.Settings.{Settings}
use Rattle.service_model_types.specs.Homes.{Home, Workflow, Token, Part, home}
use Rattle.service_model_types.specs.Limits.{most_commands}
use Rattle.service_model_types.specs.Routing.{hash_of}
use Rattle.service_model.specs.Service.{opening}

-- a shard's setup
abbrev pub setup_of : Settings → ℕ → Setup
setup_of K shard = record { service = K.service; shard = shard; shards = K.shards; queues = K.queues; retention = K.retention }

-- the contents of all shards at opening
abbrev pub opening_contents : Settings → List Content
opening_contents K = map (λ shard. opening (setup_of K shard)) (range_with_len 0 K.shards)

-- what a token may name: a shard that is there, and a run, an event and an attempt, which count from 1
abbrev pub is_token : Settings → TakenTask → Bool
is_token K t = nat_lt t.shard K.shards && (nat_le 1 t.run && (nat_le 1 t.event && nat_le 1 t.attempt))

-- a shard that is named has to be there
abbrev pub shard_refusal : Settings → ℕ → Option Refusal
shard_refusal K shard = if nat_lt shard K.shards then None else Some (InvalidArgument field.Shard)

-- a transfer turn names the shard that sends and the one that receives: each has to be there
abbrev pub ends_refusal : Settings → ℕ → ℕ → Option Refusal
ends_refusal K from to =
    if nat_lt from K.shards then (if nat_lt to K.shards then None else Some (InvalidArgument field.To))
    else Some (InvalidArgument field.From)

abbrev pub token_refusal : Settings → TakenTask → Option Refusal
token_refusal K t = if is_token K t then None else Some InvalidToken

-- as what an operation is refused for what it names its shard by; what names none is served for a call that does
abbrev pub home_refusal : Settings → Home → Option Refusal
home_refusal K (Workflow id) = None
home_refusal K (Token t) = token_refusal K t
home_refusal K Part = Some (InvalidArgument field.Shard)

-- as what a completion is refused for its commands
abbrev pub commands_refusal : Operation → Option Refusal
commands_refusal (operation.CompleteWorkflowTask q) =
    if nat_le (length q.commands) most_commands then None else Some (InvalidArgument field.Commands)
commands_refusal _ = None

-- as what an operation is refused before any shard is entered, where it is: its token is looked at before its commands
-- are counted
abbrev pub refusal_of : Settings → Operation → Option Refusal
refusal_of K o = option_or (home_refusal K (home o)) (commands_refusal o)

-- the shard of a workflow ID: its hash modulo the number of shards
abbrev pub shard_of_id : Settings → List ℕ → ℕ
shard_of_id K id = hash_of id % K.shards

-- the shard that a home names; where it names none, the first
abbrev pub shard_at : Settings → Home → ℕ
shard_at K (Workflow id) = shard_of_id K id
shard_at K (Token t) = t.shard
shard_at K Part = 0

-- the shard of an operation
abbrev pub shard_of : Settings → Operation → ℕ
shard_of K o = shard_at K (home o)

abbrev pub slot_of : Settings → Request → ℕ
slot_of K q = shard_of K q.operation

-- as what a call is refused before any shard is entered, where it is
abbrev pub refusal_of_step : Settings → StepCall → Option Refusal
refusal_of_step K (call.Request q) = refusal_of K q.operation
refusal_of_step K (call.StartTask c) = shard_refusal K c.hint.shard
refusal_of_step K (call.TimerTurn t) = shard_refusal K t.shard

-- the shard of a call: its request's, or the one that it names
abbrev pub slot_of_step : Settings → StepCall → ℕ
slot_of_step K (call.Request q) = slot_of K q
slot_of_step K (call.StartTask c) = c.hint.shard
slot_of_step K (call.TimerTurn t) = t.shard
