-- MEANING: a retry policy, as a command has it
use Rattle.std.specs.Prelude.{ℕ, ◌*◌, nat_le, if◌then◌else◌, List, [], Option, Some, None, Result, Ok, Err}
use Rattle.serde_json.specs.Data.{Data, object}
use Rattle.serde_json.specs.Find.{get}
use Rattle.wf_event_values.specs.declared.field.Field.{Field}
use Rattle.wf_event_values.specs.declared.field.Field.TheVariants as field
use Rattle.wf_event_values.specs.Names.{field_name}
use Rattle.wf_event_values.specs.declared.refusal.Refusal.{Refusal}
use Rattle.wf_event_values.specs.declared.refusal.Refusal.TheVariants.{InvalidArgument}
use Rattle.wf_event.specs.declared.payloads.PolicyFields.{PolicyFields}
use Rattle.wire_fields.specs.Steps.{◌>>=◌, for_each}
use Rattle.wire_fields.specs.Kinds.{number_of, text_of, array_of}
use Rattle.wire_fields.specs.Fields.{or_default}

-- a list of texts; the first faulty one counts
abbrev pub texts_of : Field → Data → Result (List (List ℕ)) Refusal
texts_of field d = array_of field d >>= for_each (text_of field)

-- what a whole factor counts as, in hundredths; those above a thousand count as a coefficient that is out of range
abbrev pub counts_as : ℕ → ℕ
counts_as f = if nat_le f 1000 then 100 * f else 100001

-- by how many hundredths the waits grow, by the values of the keys for a coefficient and for a factor; nobody gives both
abbrev pub growth_by : Option Data → Option Data → Result ℕ Refusal
growth_by None None = Ok 200
growth_by (Some c) None = number_of field.Coefficient c
growth_by None (Some f) = number_of field.Factor f >>= (λ n. Ok (counts_as n))
growth_by (Some c) (Some f) = Err (InvalidArgument field.Coefficient)

-- a policy's coefficient, in hundredths, however it is written
abbrev pub growth_of : Data → Result ℕ Refusal
growth_of d = growth_by (get (field_name field.Coefficient) d) (get (field_name field.Factor) d)

-- the fields of a policy; whether its numbers are in their ranges is the command's matter
unfoldable pub policy_fields_of : Data → Result PolicyFields Refusal
policy_fields_of d = do
  attempts ← or_default number_of 0 field.Attempts d
  coefficient ← growth_of d
  initial ← or_default number_of 1000 field.Initial d
  maximum ← or_default number_of 0 field.Maximum d
  non_retryable ← or_default texts_of [] field.NonRetryable d
  Ok (record { attempts = attempts; coefficient = coefficient; initial = initial; maximum = maximum; non_retryable = non_retryable })

-- a policy is an object
abbrev pub policy_of : Field → Data → Result PolicyFields Refusal
policy_of field (object members) = policy_fields_of (object members)
policy_of field _ = Err (InvalidArgument field)

-- the policy of a command that names none: no limit of attempts, twice the wait each time, from a second on
abbrev pub default_policy : PolicyFields
default_policy = record { attempts = 0; coefficient = 200; initial = 1000; maximum = 0; non_retryable = [] }
