use Rattle.std.proofs.Common.{◌≡◌, ◌≤◌, List, All, length}
use Rattle.service_model_types.specs.declared.settings.Settings.{Settings}
use Rattle.script.specs.Lines.{Line}
use Rattle.lanes.specs.Found.{AreFound}
use Rattle.lanes.proofs.FoundLemmas.{Taking}
use Rattle.lanes.proofs.run.LaneScript.take_found.Given as goal

abbrev pub invariant-loop-found : goal.invariant-loop-found
invariant-loop-found g l = record {
  own : All (λ x. g.D.Door.admits l.door x.pass) l.self.lanes.items;
  line : l.self.line ≡ l.fn.self.line;
  taking : (K : Settings) (lines : List Line) → AreFound K l.fn.reader.found.items lines
      → Taking (g.D.Door.serves l.door) (g.D.Door.meets l.door) K lines l.reader.found.items l.fn.self l.self (g.W.Write.contents l.fn.writer.inner) (g.W.Write.contents l.writer.inner);
  grows : l.fn.writer.failures ≤ l.writer.failures;
}

abbrev pub decreases-loop-found : goal.decreases-loop-found
decreases-loop-found g l = length l.reader.found.items
