use Rattle.service.proofs.JournalLemmas.{journals-open}
use Rattle.service.proofs.laws.journals_are_opened.Goals as goal

pub returns : goal.returns
returns c = journals-open
