use Rattle.std.proofs.Common.{◌∷◌, [], ◌++◌, take, sym, ap, ◌∙◌, subst}
use Rattle.std.proofs.lemmas.List.{take_more}
use Rattle.std.proofs.lemmas.List.Sums.{fold_push}
use Rattle.service_model_types.specs.declared.content.Content.{Content}
use Rattle.service_model.specs.Service.{Entry, after, opening, replay}
use Rattle.shard.specs.Standing.{StandsFor}
use Rattle.service_model_answer.proofs.answer_by.Goals as goal

pub loop-earlier-preserved : goal.loop-earlier-preserved
loop-earlier-preserved g c =
    let entries = c.args.record.now in
    let i = c.loop-earlier.earlier-index in
    let setup = c.args.shard.setup in
    let e = c.earlier-item.result in
    let P : Content → Type 0 = λ S. StandsFor c.serve.new.shard S in
    subst P
    (sym (fold_push (λ S (x : Entry). after S x.request) (opening setup) (take i entries) e) ∙ ap (replay setup) (ap (λ x. take i entries ++ x ∷ []) c.earlier-item.is ∙ sym (take_more entries i e c.loop-earlier-test.true)))
    (c.in_ok-serve.ensures.stands (replay setup (take i entries)) c.loop-earlier.invariant)
