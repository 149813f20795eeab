use Rattle.checkpoints.proofs.StartLemmas.{picked}
use Rattle.checkpoints.proofs.in_lanes.run_lanes_restored.Given as goal

abbrev pub ghosts-run_lanes_standing : goal.ghosts-run_lanes_standing
ghosts-run_lanes_standing g a = record { start = picked a.settings.now a.shards.items }
