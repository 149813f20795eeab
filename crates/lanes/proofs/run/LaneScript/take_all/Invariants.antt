use Rattle.std.proofs.Common.{◌≡◌, ◌≤◌, ℕ, All, List, length, get_or, take}
use Rattle.service_model_types.specs.declared.settings.Settings.{Settings}
use Rattle.script.specs.Lines.{Line}
use Rattle.lanes.specs.declared.reading.Reader.{Reader}
use Rattle.lanes.specs.Found.{AllRead, lines_of}
use Rattle.lanes.specs.ToldLines.{TellsLines}
use Rattle.lanes.proofs.run.LaneScript.take_all.Given as goal

abbrev pub invariant-loop-reader : goal.invariant-loop-reader
invariant-loop-reader g l = record {
  own : All (λ x. g.D.Door.admits l.door x.pass) l.self.lanes.items;
  line : l.self.line ≡ l.fn.self.line;
  count : length l.reader-items ≡ length l.initial.reader-items;
  rest : (k : ℕ) (d : Reader) → l.reader-index ≤ k → get_or l.reader-items k d ≡ get_or l.initial.reader-items k d;
  told : (K : Settings) (parts : List (List Line)) → AllRead K l.initial.reader-items parts
      → TellsLines (g.D.Door.serves l.door) (g.D.Door.meets l.door) K (lines_of (take l.reader-index parts)) l.fn.self l.self (g.W.Write.contents l.fn.writer.inner) (g.W.Write.contents l.writer.inner);
  grows : l.fn.writer.failures ≤ l.writer.failures;
}
