use Rattle.std.proofs.Common.{◌∙◌, ap, sym}
use Rattle.service_model.specs.RunState.{is_there}
use Rattle.mutable_state.specs.RunView.{RunView}
use Rattle.shard_store.proofs.PlaceLemmas.{is-empty, none-there}
use Rattle.shard_store.proofs.place.Place.is_there.Goals as goal

pub returns-in-None : goal.returns-in-None
returns-in-None g c =
    let empty = is-empty _ _ _ c.self.view_is c.in-None.is in
    sym (ap (λ (v : RunView). is_there v.state) empty ∙ none-there)
