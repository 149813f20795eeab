-- MEANING: what a field's value is, by its kind; a value of another kind, null among them, is an invalid argument
use Rattle.std.specs.Prelude.{ℕ, Bool, nat_le, List, [], ◌∷◌, length, bytes_eq, Option, find, option_and_then, Result, Ok, Err, if◌then◌else◌}
use Rattle.std.specs.Option.{ok_or}
use Rattle.serde_json.specs.Data.{Data, Items, no_items, item}
use Rattle.serde_json.specs.Find.{as_bool, as_str, as_number, as_u64, as_array}
use Rattle.wf_event_values.specs.declared.field.Field.{Field}
use Rattle.wf_event_values.specs.declared.refusal.Refusal.{Refusal}
use Rattle.wf_event_values.specs.declared.refusal.Refusal.TheVariants.{InvalidArgument, NotFound, InvalidToken}
use Rattle.wf_event_values.specs.declared.policies.ReusePolicy.{ReusePolicy}
use Rattle.wf_event_values.specs.declared.policies.ReusePolicy.TheVariants.{AllowDuplicate, AllowDuplicateFailedOnly, RejectDuplicate}
use Rattle.wf_event_values.specs.declared.policies.ConflictPolicy.{ConflictPolicy}
use Rattle.wf_event_values.specs.declared.policies.ConflictPolicy.TheVariants.{Fail, UseExisting, TerminateExisting}
use Rattle.wf_event_values.specs.declared.policies.ParentClosePolicy.{ParentClosePolicy}
use Rattle.wf_event_values.specs.declared.policies.ParentClosePolicy.TheVariants.{Terminate, Abandon, RequestCancel}
use Rattle.wf_event_values.specs.Limits.{text_in, id_in, moment_in, span_in}
use Rattle.wf_event_values.specs.Names.{reuse_name, conflict_name, parent_close_name}
use Rattle.wf_event_values.specs.Run.{Run}
use Rattle.task_token.specs.RunTexts.{run_named}
use Rattle.task_token.specs.TokenTexts.{token_named}
use Rattle.task_token.specs.declared.token.TaskToken.{TaskToken}
use Rattle.wire_fields.specs.Steps.{◌>>=◌}

-- a string
abbrev pub string_of : Field → Data → Result (List ℕ) Refusal
string_of field d = ok_or (as_str d) (InvalidArgument field)

-- a string within the limit of a text
abbrev pub text_of : Field → Data → Result (List ℕ) Refusal
text_of field d = string_of field d >>= text_in field

-- a string within the limits of a name
abbrev pub id_of : Field → Data → Result (List ℕ) Refusal
id_of field d = string_of field d >>= id_in field

-- a whole number, from 0 to 2^64 - 1
abbrev pub number_of : Field → Data → Result ℕ Refusal
number_of field d = ok_or (option_and_then as_u64 (as_number d)) (InvalidArgument field)

-- a whole number within the limit of a moment
abbrev pub moment_of : Field → Data → Result ℕ Refusal
moment_of field d = number_of field d >>= moment_in field

-- a whole number within the limit of a duration
abbrev pub span_of : Field → Data → Result ℕ Refusal
span_of field d = number_of field d >>= span_in field

-- true or false
abbrev pub flag_of : Field → Data → Result Bool Refusal
flag_of field d = ok_or (as_bool d) (InvalidArgument field)

-- a run id's text; another text names no run
abbrev pub run_of : Field → Data → Result Run Refusal
run_of field d = string_of field d >>= (λ text. ok_or (run_named text) NotFound)

-- a task token's text; another text is no token
abbrev pub token_of : Field → Data → Result TaskToken Refusal
token_of field d = string_of field d >>= (λ text. ok_or (token_named text) InvalidToken)

-- an array's elements as a list
abbrev pub elements : Items → List Data
elements no_items = []
elements (item d ds) = d ∷ elements ds

-- the elements of an array
abbrev pub array_of : Field → Data → Result (List Data) Refusal
array_of field d = ok_or (as_array d) (InvalidArgument field) >>= (λ items. Ok (elements items))

-- a list of at most so many elements
abbrev pub list_in : Field → ℕ → List Data → Result (List Data) Refusal
list_in field most ds = if nat_le (length ds) most then Ok ds else Err (InvalidArgument field)

-- the elements of an array, where it has at most so many
abbrev pub elements_of : ℕ → Field → Data → Result (List Data) Refusal
elements_of most field d = array_of field d >>= list_in field most

-- the one of some things whose name this is
abbrev pub named : {A : Type 0} → (A → List ℕ) → List A → List ℕ → Option A
named name things text = find (λ x. bytes_eq text (name x)) things

-- a reuse policy, by name
abbrev pub reuse_named : List ℕ → Option ReusePolicy
reuse_named = named reuse_name (AllowDuplicate ∷ AllowDuplicateFailedOnly ∷ RejectDuplicate ∷ [])

abbrev pub reuse_of : Field → Data → Result ReusePolicy Refusal
reuse_of field d = string_of field d >>= (λ text. ok_or (reuse_named text) (InvalidArgument field))

-- a conflict policy, by name
abbrev pub conflict_named : List ℕ → Option ConflictPolicy
conflict_named = named conflict_name (Fail ∷ UseExisting ∷ TerminateExisting ∷ [])

abbrev pub conflict_of : Field → Data → Result ConflictPolicy Refusal
conflict_of field d = string_of field d >>= (λ text. ok_or (conflict_named text) (InvalidArgument field))

-- what becomes of a child as its parent closes, by name
abbrev pub parent_close_named : List ℕ → Option ParentClosePolicy
parent_close_named = named parent_close_name (Terminate ∷ Abandon ∷ RequestCancel ∷ [])

abbrev pub parent_close_of : Field → Data → Result ParentClosePolicy Refusal
parent_close_of field d = string_of field d >>= (λ text. ok_or (parent_close_named text) (InvalidArgument field))
