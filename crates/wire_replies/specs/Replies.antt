-- MEANING: the line of a reply
use Rattle.std.specs.Prelude.{ℕ, List, [], ◌∷◌, ◌++◌, codes, Result, Ok, Err}
use Rattle.serde_json.specs.Data.{Data, object, Members, no_members}
use Rattle.serde_json.specs.Written.{compact_text}
use Rattle.wf_event_values.specs.declared.refusal.Refusal.{Refusal}
use Rattle.wf_event_values.specs.declared.refusal.Refusal.TheVariants as refusal
use Rattle.wf_event_values.specs.Names.{field_name, refusal_name, refusal_number}
use Rattle.service_model_types.specs.declared.answer.Answer.{Answer}
use Rattle.wire_pages.specs.Members.{◌▸◌, number_member, run_member, text_member}
use Rattle.wire_replies.specs.Answers.{answer_members}

-- what a refusal says besides its name and number
abbrev pub detail_members : Refusal → Members → Members
detail_members (refusal.InvalidArgument field) ms = ms ▸ text_member (codes "field") (field_name field)
detail_members (refusal.AlreadyStarted run) ms = ms ▸ run_member (codes "run") run
detail_members _ ms = ms

-- a refusal
abbrev pub refusal_members : Refusal → Members → Members
refusal_members r ms = ms ▸ text_member (codes "error") (refusal_name r) ▸ number_member (codes "no") (refusal_number r) ▸ detail_members r

-- what a reply says
abbrev pub reply_members : Result Answer Refusal → Members → Members
reply_members (Ok a) = answer_members a
reply_members (Err r) = refusal_members r

-- the reply to a line, with the line's number
unfoldable pub reply_tree : ℕ → Result Answer Refusal → Data
reply_tree line reply = object (no_members ▸ number_member (codes "line") line ▸ reply_members reply)

-- a JSON value's line: its compact text, and a line feed
abbrev pub line_of : Data → List ℕ
line_of d = compact_text d ++ 10 ∷ []

-- the line of a reply
unfoldable pub reply_line : ℕ → Result Answer Refusal → List ℕ
reply_line line reply = line_of (reply_tree line reply)
