-- PROOF: the activities of a run as they are asked for
use Rattle.std.specs.Prelude.{◌≡◌, ℕ, Bool, false, List, [], map, Option, option_map}
use Rattle.wf_event.specs.declared.event.Event.{Event}
use Rattle.service_model.specs.Completion.{is_running_phase}
use Rattle.service_model.specs.RunState.{RunState, ActivityRow, is_open}
use Rattle.mutable_state.specs.declared.activity.Activity.{Activity}
use Rattle.mutable_state.specs.declared.activity.NotedActivity.{NotedActivity}
use Rattle.mutable_state.specs.declared.open.Open.{Open}
use Rattle.mutable_state.specs.Noted.{kept_row}
use Rattle.mutable_state.specs.Opens.{activity_of, is_one, row_at}

-- the row of an activity that is in use
abbrev pub row_said : Activity → ActivityRow
row_said a = kept_row a.notes a.scheduled

abbrev pub is_activity : ℕ → Open → Bool
is_activity id o = is_one (activity_of id) o

-- what its row says about an activity in use where commands are judged
abbrev pub noted_activity : ActivityRow → NotedActivity
noted_activity r = record { scheduled = r.opened.id; is_running = is_running_phase r.phase; is_asked = r.cancel_requested }

-- all activities in use, in the order in which they were scheduled
abbrev pub noted_activities : RunState → List NotedActivity
noted_activities s = map noted_activity s.activities

-- what is noted of a thing that is kept, where it is an activity
abbrev pub activity_at : List Event → Open → Option NotedActivity
activity_at es o = option_map noted_activity (row_at es o)

-- a run that has closed has no activity
abbrev pub HasNoActivityClosed : RunState → Type 0
HasNoActivityClosed s = is_open s ≡ false → s.activities ≡ []
