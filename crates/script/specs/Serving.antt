-- MEANING: A line as the sequential service serves it.
use Rattle.std.specs.Prelude.{ℕ, List, [], Bool, true, false, Option, None, Some, Result, Ok, Err}
use Rattle.wf_event_values.specs.declared.refusal.Refusal.{Refusal}
use Rattle.service_model_types.specs.declared.settings.Settings.{Settings}
use Rattle.service_model_types.specs.Replies.{Reply}
use Rattle.wire_replies.specs.Replies.{reply_line}
use Rattle.wire_requests.specs.declared.calls.Asked.{Asked}
use Rattle.wire_requests.specs.declared.calls.Asked.TheVariants.{Barrier, Call as in_a_lane}
use Rattle.script.specs.Asked.{asked}
use Rattle.script.specs.Lines.{Line}
use Rattle.script.specs.World.{World, served}

-- the reply to what a line asks; a barrier has none
abbrev pub reply_to_asked : Settings → World → Result Asked Refusal → Option Reply
reply_to_asked K W (Ok Barrier) = None
reply_to_asked K W (Ok (in_a_lane c)) = Some (served K W c.call).reply
reply_to_asked K W (Err refusal) = Some (Err refusal)

-- the world that it leaves
abbrev pub world_after_asked : Settings → World → Result Asked Refusal → World
world_after_asked K W (Ok Barrier) = W
world_after_asked K W (Ok (in_a_lane c)) = (served K W c.call).world
world_after_asked K W (Err refusal) = W

-- the reply to a line; a barrier has none
abbrev pub reply_to : Settings → World → Line → Option Reply
reply_to K W line = reply_to_asked K W (asked K line)

-- the world that a line leaves
abbrev pub world_after : Settings → World → Line → World
world_after K W line = world_after_asked K W (asked K line)

abbrev pub is_refusal : Option Reply → Bool
is_refusal (Some (Err refusal)) = true
is_refusal _ = false

-- the line of a reply, where there is one
abbrev pub text_of : ℕ → Option Reply → List ℕ
text_of number None = []
text_of number (Some reply) = reply_line number reply
