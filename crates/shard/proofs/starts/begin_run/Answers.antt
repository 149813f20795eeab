use Rattle.std.proofs.Common.{◌+◌, ◌∙◌, Some, ap}
use Rattle.service_model.specs.Outcome.{run_id}
use Rattle.shard_store.specs.declared.plan.Parts.{Parts}
use Rattle.shard_deliveries.proofs.AcceptLemmas.{planned}
use Rattle.shard.proofs.StartLemmas.{new-run-fits}
use Rattle.shard.proofs.starts.begin_run.Goals as goal

pub returns-clause-plan : goal.returns-clause-plan
returns-clause-plan g c =
    let count = c.count.ensures.count in
    let id = c.run_id.ensures ∙ ap (λ s. run_id s.setup (c.count.result + 1)) c.in_ok-made.ensures.same ∙ ap (λ k. run_id c.args.store.now.setup (k + 1)) count in
    planned {T = g.row.T.Denot} _ _ _ _ _ _ _ c.plan.ensures (c.make.ensures ∙ ap (λ (p : Parts g.row.T.Denot). record p { created = Some c.in_ok-made.made }) c.none.ensures)
    (new-run-fits c.prepare_made.new.self c.args.store.now c.args.moment c.args.beginning c.in_ok-made.made c.run_id.result c.in_ok-made.ensures.same id c.in_ok-made.ensures.made c.requires.free)
