-- INNER: the children that events settle, by the events that asked for them
use Rattle.std.specs.Prelude.{◌≡◌, ℕ, ◌==◌, if◌then◌else◌, List, map, Option, None, Some}
use Rattle.std.specs.List.{list_any}
use Rattle.wf_event.specs.declared.event.Event.{Event}
use Rattle.wf_event.specs.declared.role.Class.{Class}
use Rattle.wf_event.specs.declared.role.Class.TheVariants.{Child}
use Rattle.wf_event.specs.declared.role.Opener.{Opener}
use Rattle.wf_event_values.specs.Run.{Run}
use Rattle.service_model_types.specs.declared.content.Setup.{Setup}
use Rattle.service_model_types.specs.declared.transfer.Sent.{Sent}
use Rattle.service_model.specs.Issued.{is_left, close_transfer}
use Rattle.service_model.specs.Pending.{is_settled}

abbrev pub if_child : Class → ℕ → Option ℕ
if_child Child opener = Some opener
if_child _ opener = None

abbrev pub settled_child : Option Opener → Option ℕ
settled_child None = None
settled_child (Some s) = if_child s.class s.event

-- whether an event that asked for a child is among those that these settle
abbrev pub IsSettledBy : List Event → List ℕ → Type 0
IsSettledBy events ids = (id : ℕ) → list_any (λ n. id == n) ids ≡ is_settled Child id (map (λ (e : Event). e.attributes) events)

-- what is asked of the child that an event asked for, where none of these events settles it
abbrev pub left_transfer : Setup → Run → List Event → Event → Option Sent
left_transfer setup run events e = if is_left events e then close_transfer setup run e else None
