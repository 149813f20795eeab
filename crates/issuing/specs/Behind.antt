-- INNER: the transfers that a run issues, by the events that it shows
use Rattle.std.specs.Prelude.{Bool, if◌then◌else◌, List, [], ◌++◌, filter_map, Option}
use Rattle.wf_event.specs.declared.event.Event.{Event}
use Rattle.wf_event.specs.declared.payloads.Parent.{Parent}
use Rattle.wf_event_values.specs.Run.{Run}
use Rattle.service_model_types.specs.declared.content.Setup.{Setup}
use Rattle.service_model_types.specs.declared.transfer.Sent.{Sent}
use Rattle.service_model.specs.Issued.{requests_of, close_transfer, children_left, closed_transfer}

-- the transfers of a run's closing, where these are all its events, and those the later ones
abbrev pub closings_behind : Setup → Run → Option Parent → List Event → List Event → List Sent
closings_behind setup run parent events later =
    filter_map (close_transfer setup run) (children_left events) ++ filter_map (closed_transfer run parent) later

-- as the definitions have it of the run's state
abbrev pub transfers_behind : Setup → Run → Bool → Option Parent → List Event → List Event → List Sent
transfers_behind setup run is_open parent events later =
    requests_of setup run later ++ (if is_open then [] else closings_behind setup run parent events later)
