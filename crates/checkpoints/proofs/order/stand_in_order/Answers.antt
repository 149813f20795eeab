use Rattle.std.proofs.Common.{◌∙◌, subst}
use Rattle.checkpoint_history.specs.Counts.{TellsOrder}
use Rattle.checkpoints.proofs.OrderLemmas.{told-of, told-of-texts}
use Rattle.checkpoints.proofs.order.stand_in_order.Goals as goal

pub returns-clause-stand : goal.returns-clause-stand
returns-clause-stand g c = λ start standing.
    told-of g.S.Object.stands c.args.shards.now c.are_in_order-told.result c.requires
    (subst (λ xs. TellsOrder xs c.are_in_order-told.result) (c.as_slice.ensures.value ∙ c.in_ok-all.ensures) c.are_in_order-told.ensures) start standing

pub returns-clause-spelled : goal.returns-clause-spelled
returns-clause-spelled g c = λ K content restored spell.
    told-of-texts c.texts_spell_one_content.ensures.found g.S.Object.stands c.args.shards.now c.are_in_order-told.result
    (λ start standing. told-of g.S.Object.stands c.args.shards.now c.are_in_order-told.result c.requires
    (subst (λ xs. TellsOrder xs c.are_in_order-told.result) (c.as_slice.ensures.value ∙ c.in_ok-all.ensures) c.are_in_order-told.ensures) start standing)
    K content restored spell
