use Rattle.std.proofs.Common.{rules, not, Bool}
use Rattle.std.proofs.lemmas.Fn.{filter_same}
use Rattle.service_model_types.specs.declared.content.Dispatch.{Dispatch}
use Rattle.service_model.specs.Waiting.{hands_over}
use Rattle.shard_issued.proofs.dispatches.Dispatches.not_handed_over.Goals as goal

pub returns : goal.returns
returns c =
    let q : Dispatch → Bool = λ d. not (hands_over c.args.self.now.waiting.items d) in
    filter_same _ q _ (λ x b p h. search rules) _ _ c.retain.ensures.filtered
