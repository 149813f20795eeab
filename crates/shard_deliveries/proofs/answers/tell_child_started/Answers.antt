use Rattle.std.proofs.Common.{sym, subst, Option}
use Rattle.std.specs.Prelude.{IfSome}
use Rattle.wf_event.specs.declared.attributes.Attributes.TheVariants.{ChildWorkflowExecutionStarted}
use Rattle.wf_event.specs.declared.role.Class.TheVariants.{Child}
use Rattle.service_model.specs.Outcome.{run_at}
use Rattle.shard_store.specs.ShardView.{ordinal_of, runs_in}
use Rattle.shard_deliveries.specs.Accepting.{IsFromOutside}
use Rattle.shard_deliveries.specs.Pending.{IsPending}
use Rattle.shard_deliveries.specs.declared.pending.PendingRequest.{PendingRequest}
use Rattle.shard_deliveries.proofs.FitLemmas.{child-started-comes}
use Rattle.shard_deliveries.proofs.answers.tell_child_started.Goals as goal

pub accept_event-requires-clause-outside : goal.accept_event-requires-clause-outside
accept_event-requires-clause-outside g c =
    let P : Option PendingRequest → Type 0 = λ o. IfSome o (λ (p : PendingRequest). IsPending c.args.store.now Child c.args.child.now.initiated p.index) in
    let p : IsPending c.args.store.now Child c.args.child.now.initiated c.in-Some.asked.index = subst P c.in-Some.is c.in_ok-asked.ensures.pending in
    let s = run_at (runs_in c.args.store.now) (ordinal_of c.in-Some.asked.index) in
    subst (λ e. IsFromOutside s (ChildWorkflowExecutionStarted e)) (sym c.in_ok-boxed.ensures)
    (child-started-comes s c.args.child.now.initiated c.in-Some.asked.workflow_id c.args.child.now.run p.opened)
