use Rattle.std.proofs.Common.{◌≡◌, ◌∙◌, ap, sym, subst, arith, ℕ, Bool, true, ◌&&◌}
use Rattle.std.proofs.lemmas.Bool.Decides.{nat_tests}
use Rattle.std.specs.Prelude.{is_some, ◌==◌}
use Rattle.mutable_state.specs.Tasks.{numbers_in}
use Rattle.service_model.specs.Outcome.{has_run, run_at}
use Rattle.service_model.specs.RunState.{LastTask, RunState, last_task}
use Rattle.service_model.specs.Tasks.{is_last_task, is_scheduled_task}
use Rattle.shard_store.specs.ShardView.{run_in, runs_in}
use Rattle.shard.proofs.tasks.find_waiting.Goals as goal

is-same : (m n : ℕ) → m ≡ n → (m == n) ≡ true
is-same m n e = grind (arith, nat_tests, e)

all-so : (a b c d : Bool) → a ≡ true → b ≡ true → c ≡ true → d ≡ true → (a && b && (c && d)) ≡ true
all-so a b c d p q r s = ap (λ x. x && b && (c && d)) p ∙ ap (λ x. true && x && (c && d)) q ∙ ap (λ x. true && true && (x && d)) r ∙ ap (λ x. true && true && (true && x)) s

pub returns-then-task-wanted-2-clause-waits : goal.returns-then-task-wanted-2-clause-waits
returns-then-task-wanted-2-clause-waits g c =
    let v = c.args.store.now in
    let h = c.args.wanted in
    let R = runs_in v in
    let s = run_in v c.in-Some.index in
    let task = c.in_ok-task.task in
    let there : has_run R h.run ≡ true = c.place_of.ensures.some ∙ ap (λ o. is_some o) c.in-Some.is in
    let phase : is_scheduled_task s.task ≡ true = ap (λ (x : RunState). is_scheduled_task x.task) (sym c.run.ensures) ∙ ap is_scheduled_task (sym c.in_ok-task.ensures.phase) ∙ sym c.is_scheduled.ensures ∙ c.if-is_scheduled.true in
    let last : last_task s ≡ numbers_in task = ap last_task (sym c.run.ensures) ∙ sym c.in_ok-task.ensures.numbers in
    let event : ((last_task s).scheduled == h.event) ≡ true = ap (λ (t : LastTask). t.scheduled == h.event) last ∙ is-same task.scheduled h.event c.if-task-wanted.true in
    let attempt : ((last_task s).attempt == h.attempt) ≡ true = ap (λ (t : LastTask). t.attempt == h.attempt) last ∙ is-same task.attempt h.attempt c.if-task-wanted-2.true in
    let P : ℕ → Type 0 = λ k. (has_run R h.run && is_scheduled_task (run_at R k).task && is_last_task (run_at R k) h.event h.attempt) ≡ true in
    subst P c.in-Some.ensures.found (all-so (has_run R h.run) (is_scheduled_task s.task) ((last_task s).scheduled == h.event) ((last_task s).attempt == h.attempt) there phase event attempt)
