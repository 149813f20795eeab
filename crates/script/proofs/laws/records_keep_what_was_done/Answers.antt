use Rattle.script.proofs.RecordLaws.{records-grow, records-tell-contents, records-tell-steps}
use Rattle.script.proofs.laws.records_keep_what_was_done.Goals as goal

pub returns-clause-contents : goal.returns-clause-contents
returns-clause-contents c = records-tell-contents

pub returns-clause-grow : goal.returns-clause-grow
returns-clause-grow c = records-grow

pub returns-clause-steps : goal.returns-clause-steps
returns-clause-steps c = records-tell-steps
