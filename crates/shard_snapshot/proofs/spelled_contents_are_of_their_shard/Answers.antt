use Rattle.shard_snapshot.proofs.SetupLemmas.{spelled-of}
use Rattle.shard_snapshot.proofs.spelled_contents_are_of_their_shard.Goals as goal

pub returns : goal.returns
returns c = spelled-of
