-- what was written is read again: keys, and values of each kind
use Rattle.std.proofs.lemmas.Bool.Decides.{nat_tests}
use Rattle.std.proofs.Common.{◌≡◌, ℕ, ◌<◌, ◌^◌, List, [], ◌∷◌, map, Bool, true, false, cond, ◌==◌, Option, Some, None, IfSome, option_map, refl, ap, ◌∙◌, arith, le-leb}
use Rattle.std.specs.Prelude.{Result, Ok, Err}
use Rattle.std.specs.List.{AllByRecursion}
use Rattle.serde_json.specs.Data.{Data, number, unsigned, string, array}
use Rattle.serde_json.specs.View.{items_of}
use Rattle.wf_event_values.specs.declared.field.Field.{Field}
use Rattle.wf_event_values.specs.declared.field.Field.TheVariants as field
use Rattle.wf_event_values.specs.declared.refusal.Refusal.{Refusal}
use Rattle.wf_event_values.specs.declared.refusal.Refusal.TheVariants.{InvalidArgument}
use Rattle.wf_event_values.specs.declared.policies.ReusePolicy.{ReusePolicy}
use Rattle.wf_event_values.specs.declared.policies.ReusePolicy.TheVariants.{AllowDuplicate, AllowDuplicateFailedOnly, RejectDuplicate}
use Rattle.wf_event_values.specs.declared.policies.ConflictPolicy.{ConflictPolicy}
use Rattle.wf_event_values.specs.declared.policies.ConflictPolicy.TheVariants.{Fail, UseExisting, TerminateExisting}
use Rattle.wf_event_values.specs.declared.policies.ParentClosePolicy.{ParentClosePolicy}
use Rattle.wf_event_values.specs.declared.policies.ParentClosePolicy.TheVariants.{Terminate, Abandon, RequestCancel}
use Rattle.wf_event_values.specs.Limits.{IsMoment, IsSpan}
use Rattle.wf_event_values.specs.Names.{field_name, reuse_name, conflict_name, parent_close_name}
use Rattle.wf_event_values.specs.Run.{Run, IsRun}
use Rattle.task_token.specs.RunTexts.{run_text}
use Rattle.task_token.proofs.Runs.{run_again}
use Rattle.wire_fields.specs.Kinds.{text_of, id_of, moment_of, span_of, run_of, reuse_of, conflict_of, parent_close_of, array_of}
use Rattle.wire_fields.specs.Fields.{present_or, required, or_default, optional}
use Rattle.wire_fields.specs.Steps.{◌>>=◌, for_each}
use Rattle.wire_fields.proofs.ListLemmas.{elements-items_of}
use Rattle.wire_requests.specs.ExternalCommands.{command_run_of}
use Rattle.wire_record_rows.specs.Rows.{Row, lookup, rise, object_of}
use Rattle.wire_record_rows.specs.Plain.{IsPlain, ArePlain, IfPlain}
use Rattle.wire_record_rows.proofs.RowLemmas.{found}
use Rattle.wire_record_commands.specs.Limits.{IsText, IsId}

-- ---- steps one after another

pub then : {A B : Type 0} {r : Result A Refusal} {x : A} {y : Result B Refusal} (f : A → Result B Refusal) → r ≡ Ok x → f x ≡ y → (r >>= f) ≡ y
then f e k = ap (λ o. o >>= f) e ∙ k

-- ---- keys

module _ {A : Type 0} (kind : Field → Data → Result A Refusal) where
  pub required_is : (f : Field) (rows : List Row) (d : Data) (x : A) → rise rows ≡ true → lookup (field_name f) rows ≡ Some d → kind f d ≡ Ok x → required kind f (object_of rows) ≡ Ok x
  required_is f rows d x r at e = ap (present_or (Err (InvalidArgument f)) (kind f)) (found (field_name f) rows r ∙ at) ∙ e

  pub default_is : (default : A) (f : Field) (rows : List Row) (d : Data) (x : A) → rise rows ≡ true → lookup (field_name f) rows ≡ Some d → kind f d ≡ Ok x → or_default kind default f (object_of rows) ≡ Ok x
  default_is default f rows d x r at e = ap (present_or (Ok default) (kind f)) (found (field_name f) rows r ∙ at) ∙ e

  -- a value that is left out where it is the default
  pub left_out_is : (default : A) (f : Field) (rows : List Row) (o : Option Data) (x : A) → rise rows ≡ true → lookup (field_name f) rows ≡ o → present_or (Ok default) (kind f) o ≡ Ok x → or_default kind default f (object_of rows) ≡ Ok x
  left_out_is default f rows o x r at e = ap (present_or (Ok default) (kind f)) (found (field_name f) rows r ∙ at) ∙ e

  module _ (P : A → Type 0) (write : A → Data) where
    pub some_is : (f : Field) → ((x : A) → P x → kind f (write x) ≡ Ok x) → (o : Option A) → IfSome o P → present_or (Ok None) (λ v. kind f v >>= (λ x. Ok (Some x))) (option_map write o) ≡ Ok o
    some_is f back None h = refl
    some_is f back (Some x) h = then _ (back x h) refl

    pub optional_is : (f : Field) (rows : List Row) (o : Option A) → rise rows ≡ true → lookup (field_name f) rows ≡ option_map write o → ((x : A) → P x → kind f (write x) ≡ Ok x) → IfSome o P → optional kind f (object_of rows) ≡ Ok o
    optional_is f rows o r at back h = ap (present_or (Ok None) (λ v. kind f v >>= (λ x. Ok (Some x)))) (found (field_name f) rows r ∙ at) ∙ some_is f back o h

-- ---- values

pub text_back : (f : Field) (t : List ℕ) → IsText t → text_of f (string t) ≡ Ok t
text_back f t h = rw (le-leb _ _ h.0) refl

pub id_back : (f : Field) (t : List ℕ) → IsId t → id_of f (string t) ≡ Ok t
id_back f t h = rw (le-leb _ _ h.0.0, le-leb _ _ h.0.1) refl

pub moment_back : (f : Field) (n : ℕ) → IsMoment n → moment_of f (number (unsigned n)) ≡ Ok n
moment_back f n h = rw (le-leb _ _ h) refl

pub span_back : (f : Field) (n : ℕ) → IsSpan n → span_of f (number (unsigned n)) ≡ Ok n
span_back f n h = rw (le-leb _ _ h) refl

-- a duration that is left out where it is 0
pub left_out_back : (f : Field) (n : ℕ) → IsSpan n → present_or (Ok 0) (span_of f) (option_map (λ x. number (unsigned x)) (cond (n == 0) None (Some n))) ≡ Ok n
left_out_back f n h = by_test (n == 0) refl
  where
    by_test : (b : Bool) → (n == 0) ≡ b → present_or (Ok 0) (span_of f) (option_map (λ x. number (unsigned x)) (cond b None (Some n))) ≡ Ok n
    by_test true is = let none : 0 ≡ n = grind (arith, nat_tests) in ap Ok none
    by_test false is = span_back f n h

pub left_out_span : (n : ℕ) → IsSpan n → IfSome (cond (n == 0) None (Some n)) IsSpan
left_out_span n h = by_test (n == 0)
  where
    by_test : (b : Bool) → IfSome (cond b None (Some n)) IsSpan
    by_test true = tt
    by_test false = h

pub run_back : (f : Field) (r : Run) → IsRun r → run_of f (string (run_text r)) ≡ Ok r
run_back f r h = rw (run_again r h) refl

pub command_run_back : (f : Field) (r : Run) → IsRun r → command_run_of f (string (run_text r)) ≡ Ok r
command_run_back f r h = rw (run_again r h) refl

pub reuse_back : (f : Field) (x : ReusePolicy) → reuse_of f (string (reuse_name x)) ≡ Ok x
reuse_back f AllowDuplicate = refl
reuse_back f AllowDuplicateFailedOnly = refl
reuse_back f RejectDuplicate = refl

pub conflict_back : (f : Field) (x : ConflictPolicy) → conflict_of f (string (conflict_name x)) ≡ Ok x
conflict_back f Fail = refl
conflict_back f UseExisting = refl
conflict_back f TerminateExisting = refl

pub parent_close_back : (f : Field) (x : ParentClosePolicy) → parent_close_of f (string (parent_close_name x)) ≡ Ok x
parent_close_back f Terminate = refl
parent_close_back f Abandon = refl
parent_close_back f RequestCancel = refl

-- ---- lists

pub array_back : (f : Field) (ds : List Data) → array_of f (array (items_of ds)) ≡ Ok ds
array_back f ds = ap Ok (elements-items_of ds)

pub each_back : {A : Type 0} (P : A → Type 0) (step : Data → Result A Refusal) (write : A → Data) → ((x : A) → P x → step (write x) ≡ Ok x) → (xs : List A) → AllByRecursion P xs → for_each step (map write xs) ≡ Ok xs
each_back P step write back [] h = refl
each_back P step write back (x ∷ xs) h = then _ (back x h.0) (then _ (each_back P step write back xs h.1) refl)

pub list_back : {A : Type 0} (f : Field) (P : A → Type 0) (step : Data → Result A Refusal) (write : A → Data) → ((x : A) → P x → step (write x) ≡ Ok x) → (xs : List A) → AllByRecursion P xs → (array_of f (array (items_of (map write xs))) >>= for_each step) ≡ Ok xs
list_back f P step write back xs h = then (for_each step) (array_back f (map write xs)) (each_back P step write back xs h)

-- ---- plain values

pub span_plain : (n : ℕ) → IsSpan n → n < 2 ^ 64
span_plain n h = omega (arith, h)

pub moment_plain : (n : ℕ) → IsMoment n → n < 2 ^ 64
moment_plain n h = omega (arith, h)

pub if_plain : {A : Type 0} (P : A → Type 0) (write : A → Data) (k : ℕ) → ((x : A) → P x → IsPlain k (write x)) → (o : Option A) → IfSome o P → IfPlain k (option_map write o)
if_plain P write k plain None h = tt
if_plain P write k plain (Some x) h = plain x h

pub each_plain : {A : Type 0} (P : A → Type 0) (write : A → Data) (k : ℕ) → ((x : A) → P x → IsPlain k (write x)) → (xs : List A) → AllByRecursion P xs → ArePlain k (items_of (map write xs))
each_plain P write k plain [] h = tt
each_plain P write k plain (x ∷ xs) h = (plain x h.0, each_plain P write k plain xs h.1)
