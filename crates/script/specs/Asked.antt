-- MEANING: What a line asks.
use Rattle.std.specs.Prelude.{if◌then◌else◌, Some, None, Result, Err}
use Rattle.std.specs.Str.{is_utf8}
use Rattle.wf_event_values.specs.declared.field.Field.TheVariants as field
use Rattle.wf_event_values.specs.declared.refusal.Refusal.{Refusal}
use Rattle.wf_event_values.specs.declared.refusal.Refusal.TheVariants.{InvalidArgument}
use Rattle.service_model_types.specs.declared.settings.Settings.{Settings}
use Rattle.wire_requests.specs.declared.calls.Asked.{Asked}
use Rattle.wire_requests.specs.Calls.{asked_of_line}
use Rattle.script.specs.Lines.{Line}

-- what a line asks for, or why it is refused: for its length, for bytes that are no UTF-8, or for what it says
abbrev pub asked : Settings → Line → Result Asked Refusal
asked K None = Err (InvalidArgument field.Line)
asked K (Some bytes) = if is_utf8 bytes then asked_of_line K bytes else Err (InvalidArgument field.Json)
