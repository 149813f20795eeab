use Rattle.std.proofs.Common.{◌≡◌}
use Rattle.transfer.specs.Logs.{count_issued}
use Rattle.checkpoint_history.proofs.StoreLemmas.{read}
use Rattle.checkpoint_history.proofs.stores.counts_read.Given as goal

abbrev pub invariant-loop-to : goal.invariant-loop-to
invariant-loop-to g l = record {
  issued : l.issued.items ≡ read (λ w. count_issued w) l.store.outgoing l.to;
  acknowledged : l.acknowledged.items ≡ read (λ w. w.counted) l.store.outgoing l.to;
}
