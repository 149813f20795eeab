use Rattle.snapshot_facts.proofs.TestLemmas.{tested}
use Rattle.snapshot_facts.proofs.what_passes_may_come.Goals as goal

pub returns : goal.returns
returns c = tested
