use Rattle.std.proofs.Common.{◌≡◌, ◌∙◌, ◌∷◌, ◌++◌, [], ap, ℕ, List, Option, Some}
use Rattle.std.specs.Prelude.{unwrap_or}
use Rattle.service_model_types.specs.declared.journal.Fact.{Fact}
use Rattle.service_model_types.specs.Limits.{used_task_timeout}
use Rattle.service_model.specs.Starts.{first_task}
use Rattle.shard_steps.specs.declared.starts.Beginning.{Beginning}
use Rattle.shard.proofs.followers.following.Goals as goal

pub returns : goal.returns
returns c =
    let k = c.args.command.now in
    let a = c.args.started.now in
    let queue = unwrap_or k.task_queue a.task_queue in
    let B : List ℕ → List ℕ → List ℕ → List ℕ → ℕ → ℕ → Option (List ℕ) → List Fact → Beginning = λ id type queue input run task request facts. record {
      started = record { workflow_id = id; workflow_type = type; task_queue = queue; input = input; run_timeout = run; task_timeout = task; continued_from = Some c.args.from; parent = a.parent; execution_deadline = a.execution_deadline };
      request_id = request;
      facts = facts;
    } in
    let facts : c.from_vec.result ≡ first_task queue ∷ [] =
    c.from_vec.ensures ∙ c.in_ok-push.ensures.items ∙ ap (λ l. l ++ c.in_ok-first_task.field-0 ∷ []) c.new-facts.ensures.items ∙ ap (λ f. f ∷ []) (c.in_ok-first_task.ensures ∙ ap first_task c.queue_after-queue.ensures) in
    let task = c.used_task_timeout.ensures ∙ ap used_task_timeout c.unwrap_or-task_timeout.ensures in
    ap (λ x. B x c.in_ok-clone-2.field-0 c.in_ok-clone-3.field-0 c.in_ok-clone-4.field-0 c.unwrap_or.result c.used_task_timeout.result c.in_ok-copy_of.field-0 c.from_vec.result) c.in_ok-clone.ensures.cases
    ∙ ap (λ x. B a.workflow_id x c.in_ok-clone-3.field-0 c.in_ok-clone-4.field-0 c.unwrap_or.result c.used_task_timeout.result c.in_ok-copy_of.field-0 c.from_vec.result) (c.in_ok-clone-2.ensures.cases ∙ c.type_after.ensures)
    ∙ ap (λ x. B a.workflow_id (unwrap_or k.workflow_type a.workflow_type) x c.in_ok-clone-4.field-0 c.unwrap_or.result c.used_task_timeout.result c.in_ok-copy_of.field-0 c.from_vec.result) (c.in_ok-clone-3.ensures.cases ∙ c.queue_after-queue.ensures)
    ∙ ap (λ x. B a.workflow_id (unwrap_or k.workflow_type a.workflow_type) queue x c.unwrap_or.result c.used_task_timeout.result c.in_ok-copy_of.field-0 c.from_vec.result) c.in_ok-clone-4.ensures.cases
    ∙ ap (λ x. B a.workflow_id (unwrap_or k.workflow_type a.workflow_type) queue k.input x c.used_task_timeout.result c.in_ok-copy_of.field-0 c.from_vec.result) c.unwrap_or.ensures
    ∙ ap (λ x. B a.workflow_id (unwrap_or k.workflow_type a.workflow_type) queue k.input (unwrap_or k.run_timeout a.run_timeout) x c.in_ok-copy_of.field-0 c.from_vec.result) task
    ∙ ap (λ x. B a.workflow_id (unwrap_or k.workflow_type a.workflow_type) queue k.input (unwrap_or k.run_timeout a.run_timeout) (used_task_timeout (unwrap_or k.task_timeout a.task_timeout)) x c.from_vec.result) c.in_ok-copy_of.ensures
    ∙ ap (B a.workflow_id (unwrap_or k.workflow_type a.workflow_type) queue k.input (unwrap_or k.run_timeout a.run_timeout) (used_task_timeout (unwrap_or k.task_timeout a.task_timeout)) _) facts
