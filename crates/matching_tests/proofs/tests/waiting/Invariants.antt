use Rattle.std.proofs.Common.{◌<◌, All}
use Rattle.matching_tests.proofs.tests.waiting.Given as goal

abbrev pub invariant-loop-queue : goal.invariant-loop-queue
invariant-loop-queue g l = All (λ d. d.hint.shard < 1) l.waiting.items
