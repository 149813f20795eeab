use Rattle.std.proofs.Common.{◌≡◌, ◌≤◌, ◌++◌, ℕ, List}
use Rattle.std.specs.Io.KnownBytes.{Consumes}
use Rattle.snapshot_pieces.proofs.lines.next_piece.Given as goal

abbrev pub invariant-loop : goal.invariant-loop
invariant-loop g l = record {
  chunk : List ℕ;
  read : Consumes (g.R.Read.remaining l.fn.reader.inner) (g.R.Read.remaining l.reader.inner) chunk;
  joined : l.ahead ≡ l.fn.ahead ++ chunk;
  grows : l.fn.reader.failures ≤ l.reader.failures;
}
