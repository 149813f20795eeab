-- where requests go
use Rattle.std.proofs.Common.{◌≡◌, ℕ, refl, sym, subst, Option, Some, None, Ok, Err}
use Rattle.std.specs.Prelude.{Result}
use Rattle.wf_event_values.specs.declared.refusal.Refusal.{Refusal}
use Rattle.service_model_types.specs.declared.request.Request.{Request}
use Rattle.service_model_types.specs.Replies.{Reply}
use Rattle.gate.specs.declared.object.Refused.{Refused}
use Rattle.service.specs.ServiceViews.{Service}
use Rattle.service.specs.ServiceViews.{Pass}
use Rattle.service.specs.Services.{IsPassOf, IsServedOnBy, IsTriedOn}
use Rattle.service.specs.Routes.{IsServedVia, IsTriedVia, routed}

-- a call that went where its request goes was served on that slot, where nothing refuses it
pub served-via : {E : Type 0} (x : Service) (p p' : Pass) (route : Result ℕ Refusal) (refusal : Option Refusal) (slot : ℕ) (q : Request) (result : Result Reply (E × Request)) → IsPassOf p x → route ≡ routed refusal slot
    → IsServedVia x p p' route q result → IsServedOnBy x p p' refusal slot q result
served-via x p p' route None slot q result own is via = subst (λ r. IsServedVia x p p' r q result) is via
served-via x p p' route (Some e) slot q result own is via =
    let by : (result ≡ Ok (Err e)) × (p' ≡ p) = subst (λ r. IsServedVia x p p' r q result) is via in
    let here : IsServedOnBy x p p (Some e) slot q result =
    subst (λ r. IsServedOnBy x p p (Some e) slot q r) (sym by.0) (record { own = own; named = refl; hints = refl; ok = (refl, refl); back = tt; err = tt }) in
    subst (λ u. IsServedOnBy x p u (Some e) slot q result) (sym by.1) here

-- a call that never waits and went where its request goes was tried on that slot, where nothing refuses it
pub tried-via : (x : Service) (p p' : Pass) (route : Result ℕ Refusal) (refusal : Option Refusal) (slot : ℕ) (q : Request) (result : Result Reply (Refused × Request)) → IsPassOf p x → route ≡ routed refusal slot
    → IsTriedVia x p p' route q result → IsTriedOn x p p' refusal slot q result
tried-via x p p' route None slot q result own is via = subst (λ r. IsTriedVia x p p' r q result) is via
tried-via x p p' route (Some e) slot q result own is via =
    let by : (result ≡ Ok (Err e)) × (p' ≡ p) = subst (λ r. IsTriedVia x p p' r q result) is via in
    let here : IsTriedOn x p p (Some e) slot q result =
    subst (λ r. IsTriedOn x p p (Some e) slot q r) (sym by.0) (record { own = own; named = refl; hints = refl; ok = (refl, refl); back = tt; err = tt }) in
    subst (λ u. IsTriedOn x p u (Some e) slot q result) (sym by.1) here
