use Rattle.std.proofs.Common.{sym, ap, ◌∙◌}
use Rattle.wf_event.specs.declared.role.Class.TheVariants.{Activity}
use Rattle.service_model.specs.RunState.{used}
use Rattle.mutable_state.specs.Steps.{may_ask}
use Rattle.snapshot_facts.proofs.RowLemmas.{rows-used}
use Rattle.snapshot_facts.proofs.restoring.may_ask.Goals as goal

pub returns : goal.returns
returns g c =
    let s = c.args.run.now.state in
    c.in_ok-is_used.ensures ∙ rows-used Activity s _ (used Activity s) ∙ ap (λ a. may_ask a s) (sym c.in-ActivityTaskCancelRequested.is)
