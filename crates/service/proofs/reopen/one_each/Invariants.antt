use Rattle.std.proofs.Common.{◌≡◌, map}
use Rattle.std.specs.List.{range_with_len}
use Rattle.service.specs.Reopening.{record_at}
use Rattle.service.proofs.reopen.one_each.Given as goal

abbrev pub invariant-loop : goal.invariant-loop
invariant-loop l = l.all.items ≡ map (record_at l.records.items) (range_with_len 0 l.counter)
