use Rattle.std.proofs.Common.{ℕ, ◌∙◌, ap, subst, sym}
use Rattle.service_model_types.specs.declared.request.Request.{Request}
use Rattle.service_model_types.specs.declared.request.Start.{Start}
use Rattle.service_model.specs.Growth.{KeepsHistories}
use Rattle.service_model.specs.Service.{answer, after}
use Rattle.gate.specs.Passes.{Stamped, Stepped}
use Rattle.matching.specs.Named as matching
use Rattle.shard_gate.specs.GateViews as gates
use Rattle.service.specs.Contents.{shard_of_id}
use Rattle.service.specs.Services.{known_by, IsServed, shard_of_request}
use Rattle.service.specs.ServiceViews.{Service}
use Rattle.service.proofs.ServedLemmas.{served}
use Rattle.service.proofs.service.Service.try_enter_start.Goals as goal

pub returns-in-Ok-clause-ok : goal.returns-in-Ok-clause-ok
returns-in-Ok-clause-ok g c =
    let w = c.in-Ok.inner.leaving in
    let r = c.in-Ok.inner.promised in
    let P : ℕ → Type 0 = λ k. Stepped after answer KeepsHistories (known_by c.args.pass) w k c.request-request.result r in
    let Q : Request → Type 0 = λ q. IsServed c.args.self.now (known_by c.args.pass) w q r in
    let same = ap (λ p. p.0.known) c.into_parts-inner.ensures in
    let x = c.args.self.now in
    let slot = c.shard_of_id-slot.ensures.shard ∙ (ap (λ (y : Service). shard_of_id y.settings c.get.result.now.workflow_id) c.self.view_is
    ∙ (ap (λ (q : Start). shard_of_id x.settings q.workflow_id) c.get.ensures ∙ ap (shard_of_request x) (sym c.request-request.ensures))) in
    let entered = subst (λ v. Stepped after answer KeepsHistories v w c.shard_of_id-slot.result c.request-request.result r) same c.in-Ok.ensures.ok in
    let T : ℕ → Type 0 = λ k. Stamped (known_by c.args.pass) w k in
    let stamp = subst (λ v. Stamped v w c.shard_of_id-slot.result) same c.in-Ok.ensures.ticket in
    subst Q c.request-request.ensures (served c.args.pass w c.args.self.now _ c.request-request.result r c.requires (subst P slot entered) (subst T slot stamp))

pub returns-in-Ok-clause-own : goal.returns-in-Ok-clause-own
returns-in-Ok-clause-own g c =
    let same = ap (λ p. p.1) c.into_parts-inner.ensures in
    record {
      opened = c.requires.opened;
      own = subst (λ (x : gates.GateView). gates.IsHeldBy c.in-Ok.inner x) (ap (λ (x : Service). x.gate) c.self.view_is) c.in-Ok.ensures.own;
      hints = subst (λ q. matching.IsPassOf q c.args.self.now.queues) (sym same) c.requires.hints;
    }
