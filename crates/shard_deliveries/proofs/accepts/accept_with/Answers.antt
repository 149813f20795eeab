use Rattle.std.proofs.Common.{[], ◌∷◌, None, subst}
use Rattle.service_model_types.specs.declared.transfer.Sent.{Sent}
use Rattle.service_model.specs.Deliveries.{accepts}
use Rattle.shard_store.specs.Fitting.{FitsStep}
use Rattle.shard_deliveries.proofs.accepts.accept_with.Goals as goal

pub returns : goal.returns
returns g c =
    let P : Sent → Type 0 = λ a. FitsStep c.args.store.now c.accept_alone.result c.args.moment (accepts c.args.transfer.now None None (a ∷ [])) in
    subst P c.in_ok-boxed.ensures c.accept_alone.ensures
