use Rattle.std.proofs.Common.{◌≤◌, ◌<◌, length, take}
use Rattle.std.specs.Io.KnownBytes.{Appends}
use Rattle.wire_counted.specs.Failures.{Rose}
use Rattle.wire_counted.proofs.whole.write_whole.Given as goal

abbrev pub invariant-loop : goal.invariant-loop
invariant-loop g l = record {
  within : l.done ≤ length l.bytes;
  written : Appends (g.W.Write.contents l.fn.writer.inner) (g.W.Write.contents l.writer.inner) (take l.done l.bytes);
  grows : l.fn.writer.failures ≤ l.writer.failures;
  failed : l.done < l.counter → Rose l.fn.writer.failures l.writer.failures;
}
