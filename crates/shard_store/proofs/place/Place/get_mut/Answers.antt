use Rattle.std.proofs.Common.{◌∙◌}
use Rattle.shard_store.proofs.PlaceLemmas.{full-some}
use Rattle.shard_store.proofs.place.Place.get_mut.Goals as goal

pub unwrap-run-requires : goal.unwrap-run-requires
unwrap-run-requires g c = c.as_mut.ensures.variant ∙ full-some _ _ _ c.self.view_is c.requires
