use Rattle.std.proofs.Common.{◌∙◌, ap}
use Rattle.shard_store.specs.Fitting.{after_added, after_answer, after_created}
use Rattle.shard_store.proofs.store.Store.carry_on.Goals as goal

pub returns : goal.returns
returns g c =
    let parts = c.args.parts in
    c.add_new.ensures
    ∙ ap (after_created parts.created) (c.answer_by.ensures.state ∙ ap (after_answer parts.answer) (c.grow_by.ensures.state ∙ ap (after_added parts.added) c.move_on.ensures.state))
