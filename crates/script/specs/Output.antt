-- MEANING: What a script prints and what it leaves: the replies of the sequential service to its lines, one after
-- another, the steps that these made, and the shards' records.
use Rattle.std.specs.Prelude.{ℕ, ◌+◌, List, [], ◌∷◌, ◌++◌, Bool, true, false, Option}
use Rattle.std.specs.List.{list_any}
use Rattle.service_model.specs.Service.{Entry}
use Rattle.service_model_types.specs.Replies.{Reply}
use Rattle.script.specs.Lines.{Line}
use Rattle.script.specs.Serving.{is_refusal, reply_to, text_of, world_after}
use Rattle.script.specs.World.{World}
use Rattle.trace_text.specs.Lines.{trace_of}
use Rattle.service_model_types.specs.declared.settings.Settings.{Settings}

-- the replies to lines that are served one after another, where they have one
abbrev pub replies_from : Settings → World → List Line → List (Option Reply)
replies_from K W [] = []
replies_from K W (line ∷ lines) = reply_to K W line ∷ replies_from K (world_after K W line) lines

-- the texts of replies to lines that are numbered from this one on
abbrev pub numbered_from : ℕ → List (Option Reply) → List ℕ
numbered_from number [] = []
numbered_from number (reply ∷ replies) = text_of number reply ++ numbered_from (number + 1) replies

-- the replies of a script of these lines, from a world on
abbrev pub replies_text : Settings → World → List Line → List ℕ
replies_text K W lines = numbered_from 1 (replies_from K W lines)

-- the world that they leave
abbrev pub world_after_lines : Settings → World → List Line → World
world_after_lines K W [] = W
world_after_lines K W (line ∷ lines) = world_after_lines K (world_after K W line) lines

-- the lines of these steps, where they are asked for
abbrev pub trace_if : Bool → List (ℕ × Entry) → List ℕ
trace_if true steps = trace_of steps
trace_if false steps = []

-- what a script of these lines prints: the replies, and after the last one all steps, where these are asked for
abbrev pub output : Settings → Bool → World → List Line → List ℕ
output K trace W lines = replies_text K W lines ++ trace_if trace (world_after_lines K W lines).steps

-- the shards' records after them
abbrev pub records_after : Settings → World → List Line → List (List Entry)
records_after K W lines = (world_after_lines K W lines).records

-- whether a reply to one of these lines is a refusal
abbrev pub refuses : Settings → World → List Line → Bool
refuses K W lines = list_any is_refusal (replies_from K W lines)
