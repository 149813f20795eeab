use Rattle.std.proofs.Common.{◌≡◌, ℕ, ◌-◌, false, Option, IfOk, IfSome, subst, ap, sym}
use Rattle.service_model.specs.RunState.{is_open}
use Rattle.service_model.specs.Outcome.{Outcome, latest_run}
use Rattle.shard_store.specs.ShardView.{runs_at, states}
use Rattle.shard_store.specs.Fitting.{FitsStep, state_at}
use Rattle.shard.specs.Deciding.{signaled_by}
use Rattle.shard.proofs.StartLemmas.{signaled-none}
use Rattle.shard.proofs.signal_starts.start_and_signal.Goals as goal

pub returns-in-None-clause-plan : goal.returns-in-None-clause-plan
returns-in-None-clause-plan g c =
    let P : Outcome → Type 0 = λ o. IfOk c.start_and_signal_where_free.result (λ plan. FitsStep c.start_and_signal_where_free.new.store plan c.args.moment o) in
    subst P (signaled-none (runs_at c.args.store.now c.args.moment) c.args.request.now (latest_run (states c.args.store.now.runs) c.args.request.now.workflow_id) c.in-None.ensures.found) c.start_and_signal_where_free.ensures.plan

pub returns-in-Some-clause-plan : goal.returns-in-Some-clause-plan
returns-in-Some-clause-plan g c =
    let P : Outcome → Type 0 = λ o. IfOk c.start_and_signal_behind.result (λ plan. FitsStep c.start_and_signal_behind.new.store plan c.args.moment o) in
    subst P (ap (signaled_by (runs_at c.args.store.now c.args.moment) c.args.request.now) c.in-Some.ensures.found) c.start_and_signal_behind.ensures.plan

pub start_and_signal_where_free-requires : goal.start_and_signal_where_free-requires
start_and_signal_where_free-requires g c =
    let P : Option ℕ → Type 0 = λ o. IfSome o (λ n. is_open (state_at (states c.args.store.now.runs) (n - 1)) ≡ false) in
    subst P c.in-None.ensures.found tt

pub start_and_signal_behind-requires-clause-latest : goal.start_and_signal_behind-requires-clause-latest
start_and_signal_behind-requires-clause-latest g c = sym c.in-Some.ensures.found
