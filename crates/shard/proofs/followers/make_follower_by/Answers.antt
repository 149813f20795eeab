use Rattle.std.proofs.Common.{◌≡◌, ℕ, ◌∙◌, List, Option, Some, ap, subst, sym}
use Rattle.std.specs.Prelude.{option_copied}
use Rattle.wf_event_values.specs.Run.{Run}
use Rattle.service_model_types.specs.declared.journal.Fact.{Fact}
use Rattle.service_model.specs.Outcome.{run_at, run_id}
use Rattle.service_model.specs.RunState.{started_of}
use Rattle.service_model.specs.Starts.{start_request}
use Rattle.shard_steps.specs.Starts.{MayBegin, first_facts}
use Rattle.shard_steps.proofs.StartLemmas.{first-fits}
use Rattle.shard.specs.Following.{following}
use Rattle.shard_store.specs.ShardView.{ordinal_of, runs_at}
use Rattle.shard.proofs.FollowLemmas.{follows}
use Rattle.shard.proofs.followers.make_follower_by.Goals as goal

pub prepare_made-requires : goal.prepare_made-requires
prepare_made-requires g c =
    let b = following c.run_id-from.result c.args.command.now c.started.result.now (option_copied c.start_request.result) in
    subst (MayBegin c.args.moment) (sym c.in_ok-beginning.ensures) (first-fits c.args.moment b.request_id b.started b.started.task_queue)

pub returns-clause-made : goal.returns-clause-made
returns-clause-made g c =
    let R = runs_at c.args.store.now c.args.moment in
    let n = ordinal_of c.args.index in
    let s = run_at R n in
    let k = c.args.command.now in
    let a = c.started.result.now in
    let there : s ≡ c.run-run.result.now.state =
    sym c.run-run.ensures in
    let began : started_of s ≡ Some a = ap started_of there ∙ c.started.ensures in
    let request : start_request s ≡ option_copied c.start_request.result = ap start_request there ∙ sym c.start_request.ensures in
    let from : run_id R.setup n ≡ c.run_id-from.result = sym c.run_id-from.ensures in
    let F : Run → Option (List ℕ) → Option (List Fact) = λ f r. Some (first_facts (following f k a r)) in
    (c.in_ok-beginning.beginning, follows R n k s a began ∙ ap (F (run_id R.setup n)) request ∙ ap (λ f. F f (option_copied c.start_request.result)) from ∙ ap (λ b. Some (first_facts b)) (sym c.in_ok-beginning.ensures), c.in_ok-made.ensures.made)
