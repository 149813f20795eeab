use Rattle.std.proofs.Common.{take}
use Rattle.service_model.specs.Service.{replay}
use Rattle.shard.specs.Standing.{StandsFor}
use Rattle.service_model_answer.proofs.answer_by.Given as goal

abbrev pub invariant-loop-earlier : goal.invariant-loop-earlier
invariant-loop-earlier g l = StandsFor l.shard (replay l.initial.shard.setup (take l.earlier-index l.record))
