use Rattle.std.proofs.Common.{◌≡◌, ◌+◌, ◌∙◌, ap, subst, List}
use Rattle.std.specs.Prelude.{IfSome, slice_get}
use Rattle.service_model_types.specs.declared.transfer.TransferContent.{TransferContent}
use Rattle.transfer.specs.Logs.{Waiting}
use Rattle.transfer.specs.Outboxes.{waiting_to}
use Rattle.shard_store.proofs.OutgoingLemmas.{all-issued}
use Rattle.shard_store.specs.ShardView.{states}
use Rattle.shard_store.proofs.store.Store.next_transfer.Goals as goal

pub returns-clause-content : goal.returns-clause-content
returns-clause-content g c =
    let t = c.self.inside in
    let all = all-issued t.setup t.transfers (states t.runs.items) (ap (λ v. v.changed) c.self.view_is) (ap (λ v. v.outgoing) c.self.view_is) c.requires.caught_up in
    c.first_to.ensures.content ∙ ap (λ (l : List (Waiting TransferContent)). slice_get (waiting_to l c.args.to).items 0) all

pub returns-clause-number : goal.returns-clause-number
returns-clause-number g c =
    let t = c.self.inside in
    let all = all-issued t.setup t.transfers (states t.runs.items) (ap (λ v. v.changed) c.self.view_is) (ap (λ v. v.outgoing) c.self.view_is) c.requires.caught_up in
    subst (λ (l : List (Waiting TransferContent)). IfSome c.first_to.result (λ f. f.0 ≡ (waiting_to l c.args.to).counted + 1)) all c.first_to.ensures.number
