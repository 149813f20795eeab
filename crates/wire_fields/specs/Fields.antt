-- MEANING: a field of an object: required, with a default, or optional; a kind says what its value is
use Rattle.std.specs.Prelude.{Option, Some, None, Result, Ok, Err}
use Rattle.serde_json.specs.Data.{Data}
use Rattle.serde_json.specs.Find.{get}
use Rattle.wf_event_values.specs.declared.field.Field.{Field}
use Rattle.wf_event_values.specs.declared.refusal.Refusal.{Refusal}
use Rattle.wf_event_values.specs.declared.refusal.Refusal.TheVariants.{InvalidArgument}
use Rattle.wf_event_values.specs.Names.{field_name}
use Rattle.wire_fields.specs.Steps.{◌>>=◌}

-- what an absent field gives, or what the present one's value is
abbrev pub present_or : {A : Type 0} → Result A Refusal → (Data → Result A Refusal) → Option Data → Result A Refusal
present_or absent value None = absent
present_or absent value (Some d) = value d

-- a field that has to be there
abbrev pub required : {A : Type 0} → (Field → Data → Result A Refusal) → Field → Data → Result A Refusal
required kind field d = present_or (Err (InvalidArgument field)) (kind field) (get (field_name field) d)

-- a field, or its default where it is missing
abbrev pub or_default : {A : Type 0} → (Field → Data → Result A Refusal) → A → Field → Data → Result A Refusal
or_default kind default field d = present_or (Ok default) (kind field) (get (field_name field) d)

-- a field, where it is there
abbrev pub optional : {A : Type 0} → (Field → Data → Result A Refusal) → Field → Data → Result (Option A) Refusal
optional kind field d = present_or (Ok None) (λ v. kind field v >>= (λ x. Ok (Some x))) (get (field_name field) d)
