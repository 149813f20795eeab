use Rattle.std.proofs.Common.{◌≡◌, ◌∙◌, sym, ap, true, Some}
use Rattle.std.specs.Prelude.{option_map}
use Rattle.wf_event.specs.declared.role.Class.TheVariants.{Activity}
use Rattle.service_model.specs.RunState.{RunState, is_open, used}
use Rattle.service_model.specs.Tasks.{pending_row}
use Rattle.mutable_state.specs.Activities.{row_said}
use Rattle.mutable_state.specs.Steps.{has_id}
use Rattle.shard_store.specs.ShardView.{run_in, runs_in}
use Rattle.shard_steps.proofs.AttemptLemmas.{pending-there, pending-open, if-some}
use Rattle.shard.proofs.activities.attempt_for.Goals as goal

pub returns-clause-in_use : goal.returns-clause-in_use
returns-clause-in_use g c =
    let R = runs_in c.args.store.now in
    let there : run_in c.args.store.now c.args.index ≡ c.run.result.now.state =
    sym c.run.ensures in
    let found : pending_row (run_in c.args.store.now c.args.index) c.args.wanted.event ≡ Some (row_said c.in-Some.activity) =
    ap (λ s. pending_row s c.args.wanted.event) there ∙ sym c.in_ok-activity.ensures.found ∙ ap (option_map row_said) c.in-Some.is in
    if-some c.in_ok-task.task (has_id c.args.wanted.event (used Activity (run_in c.args.store.now c.args.index)) ≡ true) (pending-there c.args.wanted.event (run_in c.args.store.now c.args.index) (row_said c.in-Some.activity) found)

pub returns-clause-open : goal.returns-clause-open
returns-clause-open g c =
    let R = runs_in c.args.store.now in
    let there : run_in c.args.store.now c.args.index ≡ c.run.result.now.state =
    sym c.run.ensures in
    let found : pending_row (run_in c.args.store.now c.args.index) c.args.wanted.event ≡ Some (row_said c.in-Some.activity) =
    ap (λ s. pending_row s c.args.wanted.event) there ∙ sym c.in_ok-activity.ensures.found ∙ ap (option_map row_said) c.in-Some.is in
    if-some c.in_ok-task.task (is_open (run_in c.args.store.now c.args.index) ≡ true)
    (pending-open c.args.wanted.event (run_in c.args.store.now c.args.index) (row_said c.in-Some.activity) (λ h. ap (λ (s : RunState). s.activities) there ∙ c.in_ok-activity.ensures.closed (ap is_open (sym there) ∙ h)) found)
