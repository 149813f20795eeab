-- PROOF: what grounds a request of a shard still does as records grow (no proof here uses a tactic, so that the gate's object can name it)
use Rattle.std.proofs.Common.{◌≡◌, ap, ◌∙◌}
use Rattle.std.specs.Prelude.{ℕ, zero, suc, List, [], ◌∷◌, slice_get, Some}
use Rattle.service_model_types.specs.declared.content.Content.{Content}
use Rattle.service_model_types.specs.declared.request.Acknowledge.{Acknowledge}
use Rattle.service_model_types.specs.declared.request.Operation.{Operation}
use Rattle.service_model_types.specs.declared.request.Operation.TheVariants as operation
use Rattle.service_model_types.specs.declared.request.Request.{Request}
use Rattle.service_model_types.specs.declared.transfer.Transfer.{Transfer}
use Rattle.service_model.specs.Grounds.{Grounds}
use Rattle.service_model.specs.GroundGrowth.{accepted-on, holds-on, no-some, some-same}
use Rattle.service_model.specs.Service.{Entry, after}
use Rattle.service_model.specs.WholeRuns.{Holds, Accepted}
use Rattle.gate.specs.Records.{Later, replay}
use Rattle.shard_gate.specs.Grounding.{grounds}

holds-replay : (s : ℕ) (t : Transfer) (S : Content) (R : List Entry) → Holds s t S → Holds s t (replay after S R)
holds-replay s t S [] h = h
holds-replay s t S (e ∷ R) h = holds-replay s t (after S e.request) R (holds-on s t S e.request h)

accepted-replay : (s : ℕ) (a : Acknowledge) (S : Content) (R : List Entry) → Accepted s a S → Accepted s a (replay after S R)
accepted-replay s a S [] h = h
accepted-replay s a S (e ∷ R) h = accepted-replay s a (after S e.request) R (accepted-on s a S e.request h)

later-at : (cs ds : List Content) (k : ℕ) (c : Content) → Later after cs ds → slice_get cs k ≡ Some c
    → (log : List Entry) × (slice_get ds k ≡ Some (replay after c log))
later-at [] ds k c h e = absurd (no-some e)
later-at (x ∷ cs) [] k c h e = absurd h
later-at (x ∷ cs) (y ∷ ds) zero c h e = (h.0.0, ap Some (h.0.1 ∙ ap (λ (z : Content). replay after z h.0.0) (some-same e)))
later-at (x ∷ cs) (y ∷ ds) (suc k) c h e = later-at cs ds k c h.1 e

by-kind : (cs ds : List Content) (s : ℕ) (a : Operation) → Later after cs ds → Grounds cs s a → Grounds ds s a
by-kind cs ds s (operation.Deliver t) h g =
    let l = later-at cs ds t.from g.0 h g.1 in (replay after g.0 l.0, l.1, holds-replay s t g.0 l.0 g.2)
by-kind cs ds s (operation.Acknowledge a) h g =
    let l = later-at cs ds a.to g.0 h g.1 in (replay after g.0 l.0, l.1, accepted-replay s a g.0 l.0 g.2)
by-kind cs ds s (operation.Start x) h g = tt
by-kind cs ds s (operation.Signal x) h g = tt
by-kind cs ds s (operation.SignalWithStart x) h g = tt
by-kind cs ds s (operation.RequestCancel x) h g = tt
by-kind cs ds s (operation.Terminate x) h g = tt
by-kind cs ds s (operation.StartTask x) h g = tt
by-kind cs ds s (operation.CompleteWorkflowTask x) h g = tt
by-kind cs ds s (operation.FailWorkflowTask x) h g = tt
by-kind cs ds s (operation.CompleteActivity x) h g = tt
by-kind cs ds s (operation.FailActivity x) h g = tt
by-kind cs ds s (operation.CancelActivity x) h g = tt
by-kind cs ds s (operation.Heartbeat x) h g = tt
by-kind cs ds s (operation.History x) h g = tt
by-kind cs ds s (operation.Describe x) h g = tt
by-kind cs ds s operation.TimerTurn h g = tt
by-kind cs ds s (operation.NextTransfer x) h g = tt
by-kind cs ds s operation.NextDispatch h g = tt
by-kind cs ds s (operation.Dispatched x) h g = tt

pub grounds-on : (before later : List Content) (s : ℕ) (q : Request) → Later after before later → grounds before s q → grounds later s q
grounds-on before later s q = by-kind before later s q.operation
