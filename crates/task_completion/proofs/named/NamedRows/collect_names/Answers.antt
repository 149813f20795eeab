use Rattle.std.proofs.Common.{subst}
use Rattle.indexmap.specs.IndexSet.{contains_text}
use Rattle.task_completion.specs.NameCovers.{Covers}
use Rattle.task_completion.proofs.named.NamedRows.collect_names.Goals as goal

pub invariant_of-self : goal.invariant_of-self
invariant_of-self c = subst (Covers (contains_text c.in_ok-names.names)) c.as_slice.ensures.value c.in_ok-names.ensures
