use Rattle.std.proofs.Common.{◌≡◌, ◌+◌, ◌∙◌, List, [], ◌∷◌, Some, ap, length, refl, subst, sym}
use Rattle.std.specs.Prelude.{Ok, codes}
use Rattle.wf_event.specs.declared.attributes.Attributes.TheVariants.{WorkflowExecutionTerminated}
use Rattle.service_model_types.specs.declared.answer.Answer.TheVariants.{Started}
use Rattle.service_model_types.specs.declared.journal.Fact.{Fact}
use Rattle.service_model.specs.IdPolicy.{TerminateThenNew}
use Rattle.service_model.specs.Journal.{plain}
use Rattle.service_model.specs.Outcome.{run_id}
use Rattle.service_model.specs.Starts.{by_decision, first_task, started_fact}
use Rattle.shard_steps.specs.Starts.{MayBegin, first_facts, started_by}
use Rattle.shard_steps.specs.declared.starts.Beginning.{Beginning}
use Rattle.shard_steps.proofs.ClosingLemmas.{terminated-behind}
use Rattle.shard_steps.proofs.StartLemmas.{first-fits, terminate-fits}
use Rattle.shard_store.specs.Fitting.{IsPrepared}
use Rattle.shard_store.specs.ShardView.{ordinal_of, run_in, runs_at}
use Rattle.shard_store.specs.declared.plan.Parts.{Parts}
use Rattle.shard_deliveries.proofs.AcceptLemmas.{planned}
use Rattle.shard.proofs.FollowLemmas.{both-fits}
use Rattle.shard_store.proofs.IndexLemmas.{length-states}
use Rattle.shard_store.proofs.PlanLemmas.{stays-prepared}
use Rattle.shard.proofs.starts.replace_open_run.Goals as goal

pub prepare_made-requires : goal.prepare_made-requires
prepare_made-requires g c = subst (MayBegin c.args.moment) (sym c.in_ok-beginning.ensures) (first-fits c.args.moment c.args.request.now.request_id (started_by c.args.moment c.args.request.now) c.args.request.now.task_queue)

pub returns-clause-plan : goal.returns-clause-plan
returns-clause-plan g c =
    let old = c.args.store.now in
    let at = c.args.moment in
    let i = c.args.index in
    let q = c.args.request.now in
    let v = c.prepare_made.new.self in
    let more = c.in_ok-more.more in
    let s = run_in old i in
    let b = c.in_ok-beginning.beginning in
    let reason = codes "TerminateExisting" in
    let facts : List Fact = plain (WorkflowExecutionTerminated reason) ∷ [] in
    let made : c.in_ok-facts.facts ≡ facts = c.in_ok-facts.ensures ∙ ap (λ r. plain (WorkflowExecutionTerminated r) ∷ []) c.in_ok-replaced_reason.ensures in
    let same = c.in_ok-made.ensures.same ∙ c.in_ok-more.ensures.same in
    let first : IsPrepared c.prepare_in.new.self at i facts more = subst (λ l. IsPrepared c.prepare_in.new.self at i l more) made c.in_ok-more.ensures.more in
    let prepared = stays-prepared c.prepare_in.new.self v at i facts more c.in_ok-made.ensures.runs c.in_ok-made.ensures.caught_up first in
    let count = c.count.ensures.count ∙ sym (length-states v.runs) ∙ ap (λ s. length s.runs) same in
    let id = c.run_id.ensures ∙ ap (λ s. run_id s.setup (c.count.result + 1)) same ∙ ap (λ k. run_id old.setup (k + 1)) count in
    let parts =
    c.make-parts.ensures
    ∙ ap (λ (p : Parts g.row.T.Denot). record p { created = Some c.in_ok-made.made })
    (c.add.ensures ∙ ap (λ (p : Parts g.row.T.Denot). record p { added = Some more }) c.none.ensures) in
    planned {T = g.row.T.Denot} _ _ _ _ _ _ _ c.plan.ensures parts
    (both-fits v old at i more facts b c.in_ok-made.made (Ok (Started c.run_id.result)) (by_decision (runs_at old at) (ordinal_of i) (started_fact at q ∷ first_task q.task_queue ∷ []) TerminateThenNew) same prepared
    (terminate-fits at s reason c.requires.open) c.requires.open (terminated-behind at s reason) (c.requires.named ∙ sym (ap (λ (x : Beginning). x.started.workflow_id) c.in_ok-beginning.ensures)) c.in_ok-made.ensures.made
    refl (ap (λ x. Some (first_facts x)) (sym c.in_ok-beginning.ensures)) refl (ap (λ r. Ok (Started r)) id) refl refl)
