use Rattle.std.proofs.Common.{List, sym, ap, append-nil, ◌∙◌, ◌++◌}
use Rattle.std.specs.Prelude.{filter_map}
use Rattle.service_model.specs.Issued.{close_transfer, children_left}
use Rattle.service_model_types.specs.declared.transfer.Sent.{Sent}
use Rattle.issuing.specs.Behind.{closings_behind}
use Rattle.issuing.proofs.LeftLemmas.{none-told}
use Rattle.issuing.proofs.transfers.closings_of.Goals as goal

pub returns-in_default : goal.returns-in_default
returns-in_default c =
    let left : List Sent = filter_map (close_transfer c.args.setup.now c.args.run) (children_left c.args.events.now) in
    c.in_ok-found.ensures
    ∙ sym (append-nil left)
    ∙ ap (λ l. left ++ l) (sym (none-told c.args.run c.args.later.now))
    ∙ ap (λ p. closings_behind c.args.setup.now c.args.run p c.args.events.now c.args.later.now) (sym c.in_default.is)
