use Rattle.std.proofs.Common.{◌∙◌, ap, sym, subst, Option, Some}
use Rattle.service_model_types.specs.declared.transfer.Sent.{Sent}
use Rattle.shard_issued.specs.Issuing.{all_waiting}
use Rattle.shard_issued.specs.Sending.{TransfersView}
use Rattle.shard_issued.proofs.SendingLemmas.{answered-sends}
use Rattle.shard_store.specs.Fitting.{MayAnswer, after_answer}
use Rattle.shard_store.specs.ShardView.{ShardView, state, states}
use Rattle.shard_store.proofs.OutgoingLemmas.{both-moved}
use Rattle.shard_store.proofs.store.Store.answer_by.Goals as goal

pub returns-in-Some-clause-state : goal.returns-in-Some-clause-state
returns-in-Some-clause-state g c =
    let t = c.self.inside in
    let runs = states t.runs.items in
    let may = subst (MayAnswer c.args.self.now) c.in-Some.is c.requires in
    let sends = answered-sends t.setup t.transfers c.mark_answer.new.self runs c.into_inner.result (ap (λ v. v.changed.answer) c.self.view_is ∙ may) c.mark_answer.ensures in
    both-moved t.setup runs t.last (all_waiting t.setup t.dispatches t.changed runs) sends (ap (λ (x : TransfersView). x.accepted) c.mark_answer.ensures)
    ∙ ap (λ (v : ShardView). after_answer (Some c.into_inner.result) (state v)) c.self.view_is
    ∙ ap (λ a. after_answer (Some a) (state c.args.self.now)) c.into_inner.ensures
    ∙ ap (λ (o : Option Sent). after_answer o (state c.args.self.now)) (sym c.in-Some.is)
