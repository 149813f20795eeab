use Rattle.shard_snapshot.proofs.FoundLemmas.{spelled-found, spelled-one}
use Rattle.shard_snapshot.proofs.texts_spell_one_content.Goals as goal

pub returns-clause-one : goal.returns-clause-one
returns-clause-one c = spelled-one

pub returns-clause-found : goal.returns-clause-found
returns-clause-found c = spelled-found
