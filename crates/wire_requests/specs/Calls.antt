-- MEANING: what a line asks for
use Rattle.std.specs.Prelude.{ℕ, List, Bool, false, ◌&&◌, nat_lt, codes, if◌then◌else◌, option_and_then, Option, None, Some, Result, Ok, Err}
use Rattle.serde_json.specs.Data.{Data, object}
use Rattle.serde_json.specs.Find.{get, as_bool}
use Rattle.serde_json.specs.Read.{read}
use Rattle.wf_event_values.specs.declared.refusal.Refusal.{Refusal}
use Rattle.wf_event_values.specs.declared.refusal.Refusal.TheVariants.{InvalidArgument}
use Rattle.wf_event_values.specs.declared.field.Field.TheVariants as field
use Rattle.service_model_types.specs.declared.settings.Settings.{Settings}
use Rattle.wire_fields.specs.Steps.{◌>>=◌}
use Rattle.wire_fields.specs.Kinds.{number_of, moment_of}
use Rattle.wire_fields.specs.Fields.{required, or_default}
use Rattle.wire_requests.specs.declared.calls.Asked.{Asked}
use Rattle.wire_requests.specs.declared.calls.Asked.TheVariants.{Barrier, Call as in_a_lane}
use Rattle.wire_requests.specs.declared.calls.LaneCall.{LaneCall}
use Rattle.wire_requests.specs.Ops.{op_of}
use Rattle.wire_requests.specs.Operations.{call_of}

abbrev pub is_true : Option Bool → Bool
is_true None = false
is_true (Some b) = b

-- an object whose `barrier` is true, whatever else it has
abbrev pub is_barrier : Data → Bool
is_barrier line = is_true (option_and_then as_bool (get (codes "barrier") line))

-- the lane that a number names: there is one for each pass, and at most 256
abbrev pub lane_in : Settings → ℕ → Result ℕ Refusal
lane_in s n = if nat_lt n 256 && nat_lt n s.passes then Ok n else Err (InvalidArgument field.Lane)

-- the lane of an object, and what it asks for
unfoldable pub lane_call_of : Settings → Data → Result LaneCall Refusal
lane_call_of settings line = do
  lane ← or_default number_of 0 field.Lane line >>= lane_in settings
  op ← required op_of field.Op line
  at ← or_default moment_of 0 field.At line
  call ← call_of settings op at line
  Ok (record { lane = lane; call = call })

abbrev pub asked_of_object : Settings → Data → Result Asked Refusal
asked_of_object settings line =
    if is_barrier line then Ok Barrier else (lane_call_of settings line >>= (λ c. Ok (in_a_lane c)))

-- the same of a JSON value: a line is an object
abbrev pub asked_of_value : Settings → Option Data → Result Asked Refusal
asked_of_value settings (Some (object members)) = asked_of_object settings (object members)
asked_of_value settings _ = Err (InvalidArgument field.Json)

-- what a line asks for
abbrev pub asked_of_line : Settings → List ℕ → Result Asked Refusal
asked_of_line settings line = asked_of_value settings (read line)
