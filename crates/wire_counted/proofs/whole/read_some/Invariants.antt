use Rattle.std.proofs.Common.{◌≤◌, ◌<◌}
use Rattle.std.specs.Io.KnownBytes.{Keeps}
use Rattle.wire_counted.specs.Failures.{Rose}
use Rattle.wire_counted.proofs.whole.read_some.Given as goal

abbrev pub invariant-loop : goal.invariant-loop
invariant-loop g l = record {
  keeps : Keeps (g.R.Read.remaining l.fn.reader.inner) (g.R.Read.remaining l.reader.inner);
  grows : l.fn.reader.failures ≤ l.reader.failures;
  failed : 0 < l.counter → Rose l.fn.reader.failures l.reader.failures;
}
