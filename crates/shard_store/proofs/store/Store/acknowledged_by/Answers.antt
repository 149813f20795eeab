use Rattle.std.proofs.Common.{◌∙◌, ap, List}
use Rattle.service_model_types.specs.declared.transfer.TransferContent.{TransferContent}
use Rattle.transfer.specs.Logs.{Waiting}
use Rattle.transfer.specs.Outboxes.{waiting_to}
use Rattle.shard_store.proofs.OutgoingLemmas.{all-issued}
use Rattle.shard_store.specs.ShardView.{states}
use Rattle.shard_store.proofs.store.Store.acknowledged_by.Goals as goal

pub returns : goal.returns
returns g c =
    let t = c.self.inside in
    c.acknowledged.ensures
    ∙ ap (λ (l : List (Waiting TransferContent)). (waiting_to l c.args.to).counted)
    (all-issued t.setup t.transfers (states t.runs.items) (ap (λ v. v.changed) c.self.view_is) (ap (λ v. v.outgoing) c.self.view_is) c.requires.caught_up)
