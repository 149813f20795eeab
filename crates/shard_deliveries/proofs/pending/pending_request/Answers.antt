use Rattle.std.proofs.Common.{◌≡◌, ◌∙◌, true, sym, subst, Option}
use Rattle.std.specs.Prelude.{ℕ, List, IfSome}
use Rattle.service_model.specs.RunState.{RunState, is_open, pending}
use Rattle.mutable_state.specs.Steps.{has_id}
use Rattle.shard_deliveries.proofs.FitLemmas.{asked-waits}
use Rattle.shard_deliveries.proofs.pending.pending_request.Goals as goal

pub returns-in-Some-2-clause-pending : goal.returns-in-Some-2-clause-pending
returns-in-Some-2-clause-pending g c =
    let class = c.args.class in
    let id = c.args.initiated in
    let s = c.run.result.now.state in
    let name = c.in-Some-2.workflow_id in
    let O : Option (List ℕ) → Type 0 = λ o. IfSome o (λ n. is_open s ≡ true) in
    record {
      there = c.in-Some.ensures.there;
      opened = subst (λ (r : RunState). is_open r ≡ true) c.run.ensures (subst O c.in-Some-2.is c.in_ok-workflow_id.ensures.open);
      waits = subst (λ (r : RunState). has_id id (pending class r) ≡ true) c.run.ensures (asked-waits s class id name (sym c.in_ok-workflow_id.ensures.asked ∙ c.in-Some-2.is));
    }
