use Rattle.service_model_laws.proofs.RecordLemmas.{records-have-one}
use Rattle.service_model_laws.proofs.laws.records_have_one_open_run.Goals as goal

pub returns : goal.returns
returns c = records-have-one
