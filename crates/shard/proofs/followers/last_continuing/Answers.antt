use Rattle.std.proofs.Common.{◌≡◌, Bor, None, Option, Some, refl, sym, ◌∙◌, ap, take_all, arith}
use Rattle.std.specs.Prelude.{option_copied, is_some}
use Rattle.service_model.specs.Journal.{latest}
use Rattle.service_model.specs.Tasks.{continue_part}
use Rattle.service_model.proofs.LatestLemmas.{latest-step, first_some-here, first_some-there}
use Rattle.shard.proofs.followers.last_continuing.Goals as goal
use Rattle.shard.proofs.followers.last_continuing.Goals.{then-is_some, else-is_some}

is_some-copied : {T : Type 0} (o : Option (Bor T)) → is_some (option_copied o) ≡ is_some o
is_some-copied None = refl
is_some-copied (Some x) = refl

pub loop-command-preserved : goal.loop-command-preserved
loop-command-preserved c =
    let step = latest-step continue_part c.args.commands.now c.loop-command.command-index c.command-item.result (omega arith) c.command-item.is in
    let test = ap is_some (sym c.continue_part-here.ensures) ∙ is_some-copied c.continue_part-here.result ∙ sym c.is_some.ensures in
    elim c.if-is_some.branch [
      | then-is_some w ↦ ap option_copied w.found-is ∙ c.continue_part-here.ensures ∙ sym (step ∙ first_some-here _ _ (test ∙ w.if-is_some.true))
      | else-is_some w ↦ ap option_copied w.found-is ∙ c.loop-command.invariant ∙ sym (step ∙ first_some-there _ _ (test ∙ w.if-is_some.false))
    ]

pub returns : goal.returns
returns c =
    c.loop-command.invariant
    ∙ ap (latest continue_part) (take_all c.loop-command.command-index c.args.commands.now (omega arith))
