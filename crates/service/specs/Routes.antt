-- PROOF: where a request goes, and what a call makes of one that goes there
use Rattle.std.specs.Prelude.{◌≡◌, ℕ, Option, None, Some, Ok, Err, Result}
use Rattle.wf_event_values.specs.declared.refusal.Refusal.{Refusal}
use Rattle.service_model_types.specs.declared.request.Request.{Request}
use Rattle.service_model_types.specs.Replies.{Reply}
use Rattle.gate.specs.declared.object.Refused.{Refused}
use Rattle.service.specs.ServiceViews.{Service}
use Rattle.service.specs.ServiceViews.{Pass}
use Rattle.service.specs.Services.{IsServedOnBy, IsTriedOn}

-- a request goes to its slot, where nothing refuses it
abbrev pub routed : Option Refusal → ℕ → Result ℕ Refusal
routed None slot = Ok slot
routed (Some e) slot = Err e

-- what a call that never waits made of a request that goes this way: one that goes nowhere is refused, and its pass is as it was
abbrev pub IsTriedVia : Service → Pass → Pass → Result ℕ Refusal → Request → Result Reply (Refused × Request) → Type 0
IsTriedVia x p p' (Ok slot) q result = IsTriedOn x p p' None slot q result
IsTriedVia x p p' (Err e) q result = (result ≡ Ok (Err e)) × (p' ≡ p)

-- what a call that may wait made of a request that goes this way
abbrev pub IsServedVia : {E : Type 0} → Service → Pass → Pass → Result ℕ Refusal → Request → Result Reply (E × Request) → Type 0
IsServedVia x p p' (Ok slot) q result = IsServedOnBy x p p' None slot q result
IsServedVia x p p' (Err e) q result = (result ≡ Ok (Err e)) × (p' ≡ p)
