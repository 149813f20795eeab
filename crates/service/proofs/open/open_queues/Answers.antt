use Rattle.std.proofs.Common.{ℕ, List, ◌≡◌, ◌≢◌, refl, ◌∙◌, subst}
use Rattle.std.specs.Prelude.{Err, IfErr}
use Rattle.wf_event_values.specs.declared.refusal.Refusal.TheVariants.{NoMemory}
use Rattle.matching.specs.Holding.{held_by}
use Rattle.service.proofs.ReopenLemmas.{both-ok, err-of, holds-pushed}
use Rattle.service.proofs.open.open_queues.Goals as goal

pub returns-clause-held : goal.returns-clause-held
returns-clause-held c =
    both-ok _ _ _ _ c.open.result c.open.ensures.held c.open.ensures.fresh
    (λ r pushed fresh. holds-pushed c.args.source c.args.settings.now _ _ _ _ _ c.args.waiting.items _ r.1.items (c.into_vec-names.ensures ∙ c.in_ok-copy_queues.ensures) c.most_held-most.ensures refl refl refl pushed fresh)

pub returns-clause-err : goal.returns-clause-err
returns-clause-err c =
    let K = c.args.settings.now in
    subst {A = List (List ℕ) × ℕ} (λ z. IfErr c.open.result (λ e. e ≢ NoMemory → held_by z.0 z.1 c.args.waiting.items ≡ Err e))
    (λ i. ((c.into_vec-names.ensures ∙ c.in_ok-copy_queues.ensures) i, c.most_held-most.ensures i)) (err-of _ _ c.open.result c.open.ensures.held)
