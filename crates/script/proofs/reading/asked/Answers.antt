use Rattle.std.proofs.Common.{◌≡◌, ℕ, List, Option, Some, Err, refl}
use Rattle.std.specs.Str.{IsUtf8, is_utf8}
use Rattle.std.proofs.lemmas.Bool.{false_from_ne_true}
use Rattle.std.proofs.lemmas.Str.{IsUtf8-from_is_utf8, is_utf8-from_IsUtf8}
use Rattle.wf_event_values.specs.declared.field.Field.TheVariants.{Json}
use Rattle.wf_event_values.specs.declared.refusal.Refusal.TheVariants.{InvalidArgument}
use Rattle.service_model_types.specs.declared.settings.Settings.{Settings}
use Rattle.wire_requests.specs.Calls.{asked_of_line}
use Rattle.script.specs.Asked.{asked}
use Rattle.script.proofs.reading.asked.Goals as goal

-- bytes that are text ask what the text asks
asked-text : (K : Settings) (line : Option (List ℕ)) (bytes text : List ℕ) → Some bytes ≡ line → text ≡ bytes → IsUtf8 bytes → asked K line ≡ asked_of_line K text
asked-text K line bytes text is same utf8 = rw (← is, is_utf8-from_IsUtf8 bytes utf8, same) refl

-- other bytes are no JSON
asked-bytes : (K : Settings) (line : Option (List ℕ)) (bytes : List ℕ) → Some bytes ≡ line → ¬ (IsUtf8 bytes) → asked K line ≡ Err (InvalidArgument Json)
asked-bytes K line bytes is none = rw (← is, false_from_ne_true (is_utf8 bytes) (λ e. none (IsUtf8-from_is_utf8 bytes e))) refl

pub returns-in-Ok : goal.returns-in-Ok
returns-in-Ok c = rw (asked-text c.args.settings.now c.args.line.now c.in-Some.bytes.now c.in-Ok.text.now c.in-Some.ensures c.in-Ok.ensures.cases.0 c.in-Ok.ensures.cases.1) c.read.ensures

pub returns-in-Err : goal.returns-in-Err
returns-in-Err c = λ _. asked-bytes c.args.settings.now c.args.line.now c.in-Some.bytes.now c.in-Some.ensures c.in-Err.ensures.cases.0
