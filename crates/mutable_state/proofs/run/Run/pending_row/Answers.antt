use Rattle.std.proofs.Common.{◌≡◌, ◌∙◌, ap, sym, true, ◌==◌}
use Rattle.std.specs.Prelude.{find, option_map}
use Rattle.wf_event.specs.declared.event.Event.{Event}
use Rattle.wf_event.specs.declared.role.Class.{Class}
use Rattle.service_model.proofs.ThereLemmas.{there-open}
use Rattle.service_model.specs.RunState.{is_open_status, is_there, pending, used}
use Rattle.service_model.specs.Tasks.{pending_row}
use Rattle.mutable_state.specs.Noted.{kept_row}
use Rattle.mutable_state.specs.PendingRows.{OpenedThing, kept_pending}
use Rattle.mutable_state.proofs.ActivityLemmas.{pending-activity}
use Rattle.mutable_state.proofs.PendingLemmas.{pending-found, nothing-closed, of-said}
use Rattle.mutable_state.proofs.run.Run.pending_row.Goals as goal

pub returns-clause-found : goal.returns-clause-found
returns-clause-found c =
    let a = c.self.inside in
    let k = c.args.opener in
    of-said (λ (v : OpenedThing). v.event) c.kept_pending.result
    ∙ ap (option_map (λ (v : OpenedThing). v.event)) c.kept_pending.ensures
    ∙ pending-found a.history.lists a.request_id a.requests.cancel a.status a.task a.requests.signals a.in_use.rows k c.self.invariant.4
    ∙ ap (λ v. find (λ (e : Event). e.id == k.event) (pending k.class v.state)) c.self.view_is

pub returns-clause-noted : goal.returns-clause-noted
returns-clause-noted c = λ is.
    let a = c.self.inside in
    let k = c.args.opener in
    let row : OpenedThing → _ = λ v. kept_row v.notes v.event in
    of-said row c.kept_pending.result
    ∙ ap (option_map row) c.kept_pending.ensures
    ∙ ap (λ (d : Class). option_map row (kept_pending a.history.lists.events a.in_use.rows (record { class = d; event = k.event }))) is
    ∙ pending-activity a.history.lists a.request_id a.requests.cancel a.status a.task a.requests.signals a.in_use.rows k.event c.self.invariant.4
    ∙ ap (λ v. pending_row v.state k.event) c.self.view_is

pub returns-clause-closed : goal.returns-clause-closed
returns-clause-closed c =
    let a = c.self.inside in
    let s = c.args.self.now.state in
    let there : is_there s ≡ true = ap (λ v. is_there v.state) (sym c.self.view_is) ∙ c.self.invariant.0 in
    λ h k. ap (λ v. used k v.state) (sym c.self.view_is)
    ∙ nothing-closed a.history.lists a.request_id a.requests.cancel a.status a.task a.requests.signals a.in_use.rows (c.self.invariant.5 (ap (λ v. is_open_status v.state.status) c.self.view_is ∙ sym (there-open s there) ∙ h)) k
