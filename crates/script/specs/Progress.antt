-- PROOF: How far a script has come, from one place to another.
use Rattle.std.specs.Prelude.{◌≡◌, ℕ, List, Option}
use Rattle.std.specs.Io.KnownBytes.{Appends, Consumes}
use Rattle.wire_counted.specs.Written.{AppendsBeginning}
use Rattle.script.specs.Cursor.{Cursor, after_lines, lines_text}
use Rattle.script.specs.Lines.{Line}
use Rattle.script.specs.Pending.{ended, left}

-- text was served after a line so far: from a cursor, that line and what the writer held, to those after it
pub record Served (c : Cursor) (line : Line) (held : Option (List ℕ)) (text : List ℕ) (c' : Cursor) (line' : Line)
    (held' : Option (List ℕ)) : Type 0 where
  pub line_is : line' ≡ left line text
  pub cursor_is : c' ≡ after_lines c (ended line text)
  pub written : Appends held held' (lines_text c (ended line text))

-- some text was read and served
pub record Progress (unread : Option (List ℕ)) (c : Cursor) (line : Line) (held unread' : Option (List ℕ)) (c' : Cursor) (line' : Line)
    (held' : Option (List ℕ)) : Type 0 where
  pub text : List ℕ
  pub read : Consumes unread unread' text
  pub served : Served c line held text c' line' held'

-- some text was read, and a beginning of what its whole lines give was written
pub record Stopped (unread : Option (List ℕ)) (c : Cursor) (line : Line) (held unread' held' : Option (List ℕ)) : Type 0 where
  pub text : List ℕ
  pub read : Consumes unread unread' text
  pub begun : AppendsBeginning held held' (lines_text c (ended line text))
