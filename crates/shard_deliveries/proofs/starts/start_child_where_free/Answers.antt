use Rattle.std.proofs.Common.{◌∙◌, ◌+◌, None, Some, ap, subst, sym}
use Rattle.service_model_types.specs.declared.transfer.Sent.{Sent}
use Rattle.service_model.specs.Outcome.{run_id}
use Rattle.shard_steps.specs.Starts.{MayBegin}
use Rattle.shard_store.specs.declared.plan.Count.TheVariants.{Accepts}
use Rattle.shard_steps.proofs.StartLemmas.{first-fits}
use Rattle.shard_deliveries.specs.Children.{child_beginning}
use Rattle.shard_store.specs.declared.plan.Parts.{Parts}
use Rattle.shard_deliveries.proofs.AcceptLemmas.{planned}
use Rattle.shard_deliveries.proofs.ChildLemmas.{child-fits}
use Rattle.shard_deliveries.proofs.starts.start_child_where_free.Goals as goal

pub prepare_made-requires : goal.prepare_made-requires
prepare_made-requires g c = subst (MayBegin c.args.moment) (sym c.in_ok-beginning.ensures) (first-fits c.args.moment None (child_beginning c.args.child.now).started c.args.child.now.task_queue)

pub returns-clause-plan : goal.returns-clause-plan
returns-clause-plan g c =
    let same = c.in_ok-made.ensures.same in
    let id = c.run_id.ensures ∙ ap (λ s. run_id s.setup (c.count.result + 1)) same ∙ ap (λ k. run_id c.args.store.now.setup (k + 1)) c.count.ensures.count in
    let from = c.args.transfer.now.from in
    let parts =
    c.answer-parts.ensures
    ∙ ap (λ (p : Parts g.row.T.Denot). record p { answer = Some c.in_ok-boxed.boxed })
    (c.count-2.ensures ∙ ap (λ (p : Parts g.row.T.Denot). record p { count = Accepts from })
    (c.make-parts.ensures ∙ ap (λ (p : Parts g.row.T.Denot). record p { created = Some c.in_ok-made.made }) c.none.ensures))
    ∙ ap (λ (a : Sent). record { added = None; created = Some c.in_ok-made.made; count = Accepts from; answer = Some a }) c.in_ok-boxed.ensures in
    planned {T = g.row.T.Denot} _ _ _ _ _ _ _ c.plan.ensures parts
    (child-fits c.prepare_made.new.self c.args.store.now c.args.moment c.args.transfer.now c.args.child.now c.in_ok-beginning.beginning c.in_ok-made.made c.shard.result c.run_id.result same c.in_ok-made.ensures.caught_up c.requires.accepts.counts c.in_ok-beginning.ensures c.in_ok-made.ensures.made c.requires.free c.shard.ensures.value id)
