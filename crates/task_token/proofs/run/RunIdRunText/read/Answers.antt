use Rattle.std.proofs.Common.{◌∙◌, ap}
use Rattle.std.specs.Option.{ok_or}
use Rattle.wf_event_values.specs.declared.refusal.Refusal.TheVariants.{NotFound}
use Rattle.task_token.proofs.Runs.{reads_exactly}
use Rattle.task_token.proofs.run.RunIdRunText.read.Goals as goal

pub returns-clause-exact : goal.returns-clause-exact
returns-clause-exact c = reads_exactly c.args.text.now c.ok_or.result (c.ok_or.ensures.value ∙ ap (λ o. ok_or o NotFound) c.run_named.ensures)
