use Rattle.std.proofs.Common.{◌≡◌, ◌+◌, ◌≤◌, List, map, take}
use Rattle.lanes.specs.Answers.{LineReply}
use Rattle.lanes.specs.Lanes.{AllLeft, calls_of, passes_of}
use Rattle.lanes.specs.Numbers.{AreNumbered}
use Rattle.lanes.specs.Printed.{Printed}
use Rattle.lanes.proofs.print.print.Given as goal

abbrev pub invariant-loop-place : goal.invariant-loop-place
invariant-loop-place g l = record {
  passes : passes_of l.lanes ≡ passes_of l.initial.lanes;
  calls : map calls_of l.lanes ≡ map calls_of l.initial.lanes;
  number : l.number ≡ l.first + l.place-index;
  printed : (rss : List (List LineReply)) → AllLeft l.initial.lanes rss → AreNumbered l.first l.places rss
      → Printed l.first (take l.place-index l.places) rss l.lanes l.refused (g.W.Write.contents l.initial.writer.inner) (g.W.Write.contents l.writer.inner);
  grows : l.initial.writer.failures ≤ l.writer.failures;
}
