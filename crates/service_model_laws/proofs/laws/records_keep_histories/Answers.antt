use Rattle.service_model_laws.proofs.RecordLemmas.{records-keep}
use Rattle.service_model_laws.proofs.laws.records_keep_histories.Goals as goal

pub returns : goal.returns
returns c = records-keep
