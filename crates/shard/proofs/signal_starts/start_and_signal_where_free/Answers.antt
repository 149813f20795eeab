use Rattle.std.proofs.Common.{IfOk, None, subst, sym}
use Rattle.service_model.specs.Starts.{starts_new}
use Rattle.shard_steps.specs.declared.starts.Beginning.{Beginning}
use Rattle.shard_steps.specs.Starts.{first_facts, MayBegin}
use Rattle.shard_steps.proofs.StartLemmas.{signaled-fits}
use Rattle.shard_store.specs.ShardView.{runs_at, states}
use Rattle.shard_store.specs.Fitting.{FitsStep, IsFree}
use Rattle.shard.proofs.signal_starts.start_and_signal_where_free.Goals as goal

pub begin_run-requires-clause-begins : goal.begin_run-requires-clause-begins
begin_run-requires-clause-begins g c = subst (MayBegin c.args.moment) (sym c.in_ok-beginning.ensures) (signaled-fits c.args.moment c.args.request.now)

pub begin_run-requires-clause-free : goal.begin_run-requires-clause-free
begin_run-requires-clause-free g c = subst (λ (b : Beginning). IsFree (states c.args.store.now.runs) b.started.workflow_id) (sym c.in_ok-beginning.ensures) c.requires

pub returns-clause-plan : goal.returns-clause-plan
returns-clause-plan g c =
    let P : Beginning → Type 0 = λ b. IfOk c.begin_run.result (λ plan. FitsStep c.begin_run.new.store plan c.args.moment (starts_new (runs_at c.args.store.now c.args.moment) None (first_facts b))) in
    subst P c.in_ok-beginning.ensures c.begin_run.ensures.plan
