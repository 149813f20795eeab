use Rattle.std.proofs.Common.{◌∙◌, ap, length, sym}
use Rattle.shard_store.proofs.OutgoingLemmas.{all-issued}
use Rattle.shard_store.specs.ShardView.{states}
use Rattle.shard_store.proofs.store.Store.accepted.Goals as goal

pub returns-clause-outgoing : goal.returns-clause-outgoing
returns-clause-outgoing g c =
    let t = c.self.inside in
    let (setup, indexed, few, firsts, shown, keeps) = c.self.invariant in
    sym (ap length (all-issued t.setup t.transfers (states t.runs.items) (ap (λ v. v.changed) c.self.view_is) (ap (λ v. v.outgoing) c.self.view_is) c.requires))
    ∙ keeps.sent ∙ ap (λ v. v.setup.shards) c.self.view_is
