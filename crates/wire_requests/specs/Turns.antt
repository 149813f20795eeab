-- MEANING: the lines that ask a shard for a turn
use Rattle.std.specs.Prelude.{ℕ, ◌&&◌, ◌==◌, nat_lt, if◌then◌else◌, Result, Ok, Err}
use Rattle.serde_json.specs.Data.{Data}
use Rattle.wf_event_values.specs.declared.refusal.Refusal.{Refusal}
use Rattle.wf_event_values.specs.declared.refusal.Refusal.TheVariants.{InvalidArgument}
use Rattle.wf_event_values.specs.declared.field.Field.{Field}
use Rattle.wf_event_values.specs.declared.field.Field.TheVariants as field
use Rattle.service_model_types.specs.declared.call.DispatchTurn.{DispatchTurn}
use Rattle.service_model_types.specs.declared.call.Stop.{Stop}
use Rattle.service_model_types.specs.declared.call.Stop.TheVariants.{AtEnd, AfterFirstPart, AfterSecondPart}
use Rattle.service_model_types.specs.declared.call.TimerTurn.{TimerTurn}
use Rattle.service_model_types.specs.declared.call.TransferTurn.{TransferTurn}
use Rattle.service_model_types.specs.declared.settings.Settings.{Settings}
use Rattle.wire_fields.specs.Steps.{◌>>=◌}
use Rattle.wire_fields.specs.Kinds.{number_of}
use Rattle.wire_fields.specs.Fields.{required, or_default}

-- the shard that a number names: one that is there, else this field is at fault
abbrev pub shard_in : Settings → Field → ℕ → Result ℕ Refusal
shard_in settings f n = if nat_lt n 65536 && nat_lt n settings.shards then Ok n else Err (InvalidArgument f)

-- where a turn ends: after all its parts for 0, after so many for 1 and 2
abbrev pub stop_in : ℕ → Result Stop Refusal
stop_in n =
    if n == 0 then Ok AtEnd else (if n == 1 then Ok AfterFirstPart else
    (if n == 2 then Ok AfterSecondPart else Err (InvalidArgument field.Stop)))

-- timer_turn
unfoldable pub timer_turn_of : Settings → ℕ → Data → Result TimerTurn Refusal
timer_turn_of settings at line = do
  shard ← required number_of field.Shard line >>= shard_in settings field.Shard
  Ok (record { shard = shard; at = at })

-- dispatch_turn
unfoldable pub dispatch_turn_of : Settings → ℕ → Data → Result DispatchTurn Refusal
dispatch_turn_of settings at line = do
  shard ← required number_of field.Shard line >>= shard_in settings field.Shard
  stop ← or_default number_of 0 field.Stop line >>= stop_in
  Ok (record { shard = shard; stop = stop; at = at })

-- transfer_turn
unfoldable pub transfer_turn_of : Settings → ℕ → Data → Result TransferTurn Refusal
transfer_turn_of settings at line = do
  from ← required number_of field.From line >>= shard_in settings field.From
  to ← required number_of field.To line >>= shard_in settings field.To
  stop ← or_default number_of 0 field.Stop line >>= stop_in
  Ok (record { from = from; to = to; stop = stop; at = at })
