use Rattle.std.proofs.Common.{◌<◌, ◌∙◌, ap, length}
use Rattle.service_model.specs.RunState.{is_there}
use Rattle.mutable_state.specs.RunView.{RunView}
use Rattle.shard_store.specs.ShardView.{ShardView}
use Rattle.shard_store.proofs.IndexLemmas.{run-at}
use Rattle.shard_store.proofs.store.Store.is_there.Goals as goal

pub returns : goal.returns
returns g c =
    let is = ap (λ (v : ShardView). v.runs) c.self.view_is in
    let runs = c.self.inside.runs.items in
    let low : c.args.index < length runs = rw is c.requires in
    c.is_there.ensures ∙ ap (λ (v : RunView). is_there v.state) c.index-place.ensures ∙ ap is_there (run-at c.args.self.now runs c.args.index c.index-place.result.now is low)
