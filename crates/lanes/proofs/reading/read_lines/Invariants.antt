use Rattle.std.proofs.Common.{◌≡◌, List, ℕ, ◌++◌, length}
use Rattle.lanes.specs.Found.{AreRead, EndsLines, lines_in}
use Rattle.lanes.proofs.reading.read_lines.Given as goal

abbrev pub invariant-loop-part : goal.invariant-loop-part
invariant-loop-part l = record {
  done : List ℕ;
  parts : l.text ≡ done ++ l.rest;
  ends : EndsLines done;
  read : AreRead l.settings l.sorted l.found.items (lines_in done);
}

abbrev pub decreases-loop-part : goal.decreases-loop-part
decreases-loop-part l = length l.rest
