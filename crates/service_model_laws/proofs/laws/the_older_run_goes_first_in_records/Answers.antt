use Rattle.service_model_laws.proofs.RecordLemmas.{records-age}
use Rattle.service_model_laws.proofs.laws.the_older_run_goes_first_in_records.Goals as goal

pub returns : goal.returns
returns c = records-age
