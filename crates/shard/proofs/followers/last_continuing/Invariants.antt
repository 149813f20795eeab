use Rattle.std.proofs.Common.{◌≡◌, take}
use Rattle.std.specs.Prelude.{option_copied}
use Rattle.service_model.specs.Journal.{latest}
use Rattle.service_model.specs.Tasks.{continue_part}
use Rattle.shard.proofs.followers.last_continuing.Given as goal

abbrev pub invariant-loop-command : goal.invariant-loop-command
invariant-loop-command l = option_copied l.found ≡ latest continue_part (take l.command-index l.commands)
