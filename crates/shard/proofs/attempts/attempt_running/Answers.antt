use Rattle.std.proofs.Common.{◌≡◌, ◌∙◌, sym, ap, subst, true, Some}
use Rattle.std.specs.Prelude.{IfSome, is_some, option_map}
use Rattle.service_model.specs.Activities.{keep_running}
use Rattle.service_model.specs.RunState.{is_open}
use Rattle.service_model.specs.Tasks.{pending_row}
use Rattle.mutable_state.specs.declared.activity.Activity.{Activity}
use Rattle.mutable_state.specs.Activities.{row_said}
use Rattle.shard_steps.specs.Attempts.{has_run_of}
use Rattle.shard_store.specs.ShardView.{run_in, runs_in}
use Rattle.shard.proofs.RunningLemmas.{has-attempt}
use Rattle.shard.proofs.attempts.attempt_running.Goals as goal

pub returns-clause-running : goal.returns-clause-running
returns-clause-running g c =
    let v = c.args.store.now in
    let t = c.args.task in
    let i = c.in-Some.index in
    let has : has_run_of (runs_in v) t.shard t.run ≡ true = c.place_on.ensures.some ∙ ap (λ o. is_some o) c.in-Some.is in
    let row = row_said c.in-Some-2.activity in
    let found : keep_running t (pending_row (run_in v i) t.event) ≡ Some row = sym c.in_ok-activity.ensures.found ∙ ap (option_map row_said) c.in-Some-2.is in
    let opened : is_open (run_in v i) ≡ true = subst (λ o. IfSome o (λ (a : Activity). is_open (run_in v i) ≡ true)) c.in-Some-2.is c.in_ok-activity.ensures.open in
    has-attempt v t i row has c.in-Some.ensures.found c.in-Some.ensures.there found opened

pub returns-clause-found : goal.returns-clause-found
returns-clause-found g c = sym (returns-clause-running g c).found
