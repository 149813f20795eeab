use Rattle.script.proofs.OpeningLaws.{opens-empty}
use Rattle.script.proofs.laws.without_records_nothing_was_done.Goals as goal

pub returns : goal.returns
returns c = opens-empty
