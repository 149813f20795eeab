-- PROOF: commands, however many they are
use Rattle.std.specs.Prelude.{List, Result}
use Rattle.serde_json.specs.Data.{Data}
use Rattle.wf_event_values.specs.declared.field.Field.{Field}
use Rattle.wf_event_values.specs.declared.refusal.Refusal.{Refusal}
use Rattle.wf_command.specs.declared.command.Command.{Command}
use Rattle.wire_fields.specs.Steps.{◌>>=◌, for_each}
use Rattle.wire_fields.specs.Kinds.{array_of}
use Rattle.wire_requests.specs.Commands.{command_of}

abbrev pub all_commands_of : Field → Data → Result (List Command) Refusal
all_commands_of f d = array_of f d >>= for_each command_of
