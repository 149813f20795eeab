use Rattle.std.proofs.Common.{None, ◌≡◌, ◌+◌, sym, ap, ◌∙◌, subst, [], List, Some, length}
use Rattle.std.specs.Prelude.{Ok}
use Rattle.wf_command.specs.declared.command.Command.{Command}
use Rattle.service_model_types.specs.declared.answer.Answer.{Answer}
use Rattle.service_model.specs.Completion.{Judged, judge_all}
use Rattle.service_model.specs.Outcome.{Runs, next_ordinal, run_at, run_id}
use Rattle.service_model.specs.Tasks.{complete_judged, continued}
use Rattle.task_completion.specs.PlannedEnds.{IsCompletion}
use Rattle.shard_store.specs.Fitting.{FitsCreated, FitsStep, state_at, view_at}
use Rattle.shard.specs.Following.{continuing}
use Rattle.shard_store.specs.ShardView.{ordinal_of, runs_at, states}
use Rattle.shard_store.specs.declared.plan.Count.TheVariants as count
use Rattle.shard_store.specs.declared.plan.Change.TheVariants as change
use Rattle.shard_store.specs.declared.plan.Parts.{Parts}
use Rattle.shard_store.proofs.IndexLemmas.{at-place, length-states}
use Rattle.shard_steps.proofs.TaskLemmas.{running-started}
use Rattle.shard_deliveries.proofs.AcceptLemmas.{planned}
use Rattle.shard.proofs.TaskLemmas.{completion-fits}
use Rattle.shard.proofs.tasks.complete_running_task.Goals as goal

pub complete_in-requires-clause-started : goal.complete_in-requires-clause-started
complete_in-requires-clause-started g c = let R = runs_at c.args.store.now c.args.moment in ap (λ s. s.task) (sym (at-place R c.args.index)) ∙ ap (λ k. (run_at R k).task) c.requires.run ∙ running-started R c.args.request.now.task c.requires.runs

pub returns-clause-plan : goal.returns-clause-plan
returns-clause-plan g c =
    let old = c.args.store.now in
    let R = runs_at old c.args.moment in
    let q = c.args.request.now in
    let i = c.args.index in
    let n = ordinal_of i in
    let at = c.args.moment in
    let setup = old.setup in
    let v = c.complete_in.new.self in
    let w = c.make_follower.new.store in
    let done = c.in_ok-plan.field-0 in
    let created = c.in_ok-created.created in
    let next = run_id setup (next_ordinal R) in
    let all = judge_all setup next (run_at R q.task.run) [] q.commands in
    let judged : judge_all setup (run_id setup (length old.runs + 1)) (state_at (states old.runs) i) [] c.as_slice-commands.result.now ≡ all =
    ap (λ k. judge_all setup (run_id setup (k + 1)) (state_at (states old.runs) i) [] c.as_slice-commands.result.now) (sym (length-states old.runs))
    ∙ ap (λ s. judge_all setup next s [] c.as_slice-commands.result.now) (sym (at-place R i))
    ∙ ap (λ k. judge_all setup next (run_at R k) [] c.as_slice-commands.result.now) c.requires.run
    ∙ ap (λ l. judge_all setup next (run_at R q.task.run) [] l) c.as_slice-commands.ensures in
    let J : Judged → Type 0 = λ j. IsCompletion (view_at v.runs i) at j done in
    let same = c.in_ok-plan.ensures.same in
    let known : runs_at v at ≡ R = ap (λ s. record { setup = s.setup; moment = at; states = s.runs }) same in
    let M : Runs → List Command → Type 0 = λ r l. FitsCreated w at created (continued r n (continuing done.fault l) (run_at r n).beginning) in
    let made : M R q.commands = subst (λ l. M R l) c.as_slice-commands.ensures (subst (λ r. M r c.as_slice-commands.result.now) known c.in_ok-created.ensures.made) in
    let fits = completion-fits {T = g.row.T.Denot} v w old at i q next all done created same (c.in_ok-created.ensures.same ∙ same) c.in_ok-created.ensures.runs c.in_ok-plan.ensures.there c.in_ok-plan.ensures.caught_up c.in_ok-created.ensures.caught_up c.requires.run
    (ap (λ k. judge_all setup next (run_at R k) [] q.commands) (sym c.requires.run)) (subst J judged c.in_ok-plan.ensures.plan) made in
    let P : Answer → Type 0 = λ a. FitsStep {T = g.row.T.Denot} w (record { moment = at; change = change.Makes (record { added = Some (record { index = i; plan = done.plan }); created = created; count = count.Nothing; answer = None }); reply = Ok a }) at (complete_judged R q all) in
    let parts =
    c.make-parts.ensures
    ∙ ap (λ (p : Parts g.row.T.Denot). record p { created = created })
    (c.add.ensures ∙ ap (λ (p : Parts g.row.T.Denot). record p { added = Some (record { index = i; plan = done.plan }) }) c.none.ensures) in
    planned {T = g.row.T.Denot} _ _ _ _ _ _ _ c.plan.ensures parts (subst P (sym c.ended.ensures) fits)
