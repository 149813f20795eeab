use Rattle.std.proofs.Common.{take}
use Rattle.indexmap.specs.IndexSet.{contains_text}
use Rattle.task_completion.specs.NameCovers.{Covers}
use Rattle.task_completion.proofs.named.names_of.Given as goal

abbrev pub invariant-loop-row : goal.invariant-loop-row
invariant-loop-row l = Covers (contains_text l.names) (take l.row-index l.rows)
