-- INNER: how the call's types are read as those of the definition
use Rattle.std.specs.Prelude.{ℕ, Bool, false, List, Option, None, Some, option_map, option_copied}
use Rattle.wf_event_values.specs.declared.policies.Status.{Status}
use Rattle.id_policy.specs.declared.decision.Latest.{Latest}
use Rattle.service_model.specs.IdPolicy.{is_same_request}

-- where the latest run stands
abbrev pub status_of : Option Latest → Option Status
status_of latest = option_map (λ (l : Latest). l.status) latest

-- whether the latest run was started by this request
abbrev pub bears : Option Latest → Option (List ℕ) → Bool
bears None request_id = false
bears (Some latest) request_id = is_same_request request_id (option_copied latest.request_id)
