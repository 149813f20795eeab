use Rattle.std.proofs.Common.{◌≡◌, None, Ok}
use Rattle.shard_snapshot.specs.Laid.{Laid, noted_times}
use Rattle.shard_snapshot.specs.Restored.{IsLaid}
use Rattle.shard_snapshot.proofs.restoring.Restoring.put_notes.Given as goal

abbrev pub invariant-loop-time : goal.invariant-loop-time
invariant-loop-time g l =
    (l.self.request ≡ None)
    × ((x : Laid) → IsLaid l.initial.self x → (m : Laid) × (noted_times l._time l.notes x ≡ Ok m) × IsLaid l.self m)
