use Rattle.std.proofs.Common.{ℕ, ◌∙◌, ap, subst, IfOk}
use Rattle.std.specs.Prelude.{max}
use Rattle.shard_store.specs.ShardView.{state}
use Rattle.shard_store.specs.Fitting.{FitsStep}
use Rattle.shard.specs.Deciding.{outcome_in}
use Rattle.shard.proofs.prepare.prepare.Goals as goal

pub returns-clause-plan : goal.returns-clause-plan
returns-clause-plan g c =
    let v = c.args.store.now in
    let q = c.args.request.now in
    let P : ℕ → Type 0 = λ m. IfOk c.prepare_at.result (λ plan. FitsStep {T = g.row.T.Denot} c.prepare_at.new.store plan m (outcome_in (state v) m q.operation)) in
    subst P (c.later-moment.ensures ∙ ap (λ m. max q.at m) c.last.ensures) c.prepare_at.ensures.plan
