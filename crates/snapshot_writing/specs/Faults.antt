-- INNER: the fault of a text that restores no shard
use Rattle.shard_snapshot.specs.declared.fault.RestoreFault.{RestoreFault}
use Rattle.shard_snapshot.specs.declared.fault.RestoreFault.TheVariants as restore
use Rattle.snapshot_writing.specs.declared.fault.SnapshotFault.{SnapshotFault}
use Rattle.snapshot_writing.specs.declared.fault.SnapshotFault.TheVariants.{Memory, NotRestored}

-- a text in memory is always read
abbrev pub fault_of : RestoreFault → SnapshotFault
fault_of (restore.Damaged line damage) = NotRestored line damage
fault_of restore.Memory = Memory
fault_of (restore.Read e) = Memory
