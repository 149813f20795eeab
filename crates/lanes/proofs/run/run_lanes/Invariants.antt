use Rattle.std.proofs.Common.{◌≤◌, ◌<◌, All, vec_len}
use Rattle.lanes.specs.ToldLines.{Progress, at_start}
use Rattle.lanes.proofs.run.run_lanes.Given as goal

abbrev pub invariant-loop : goal.invariant-loop
invariant-loop g l = record {
  room : 0 < vec_len l.buffer;
  own : All (λ x. g.D.Door.admits l.door x.pass) l.script.lanes.items;
  progress : Progress (g.D.Door.serves l.door) (g.D.Door.meets l.door) l.settings (at_start l.fn.passes.items) l.script (g.R.Read.remaining l.fn.reader.inner) (g.W.Write.contents l.fn.writer.inner)
      (g.R.Read.remaining l.reader.inner) (g.W.Write.contents l.writer.inner);
  reads : l.fn.reader.failures ≤ l.reader.failures;
  writes : l.fn.writer.failures ≤ l.writer.failures;
}
