-- PROOF: Where a script stands between two lines.
use Rattle.std.specs.Prelude.{ℕ, ◌+◌, ◌||◌, List, [], ◌∷◌, ◌++◌, Bool, false}
use Rattle.script.specs.Lines.{Line}
use Rattle.script.specs.Serving.{is_refusal, reply_to, text_of, world_after}
use Rattle.script.specs.World.{World}
use Rattle.service_model_types.specs.declared.settings.Settings.{Settings}

-- the world, the next line's number, and whether a reply was a refusal
pub record Cursor : Type 0 where
  pub settings : Settings
  pub world : World
  pub number : ℕ
  pub refused : Bool

-- before the first line
abbrev pub beginning : Settings → World → Cursor
beginning K W = record { settings = K; world = W; number = 1; refused = false }

-- after one line more
unfoldable pub after_line : Cursor → Line → Cursor
after_line c line = record {
  settings = c.settings;
  world = world_after c.settings c.world line;
  number = c.number + 1;
  refused = c.refused || is_refusal (reply_to c.settings c.world line);
}

-- the reply line of the next line, if it has one
unfoldable pub line_text : Cursor → Line → List ℕ
line_text c line = text_of c.number (reply_to c.settings c.world line)

abbrev pub after_lines : Cursor → List Line → Cursor
after_lines c [] = c
after_lines c (line ∷ lines) = after_lines (after_line c line) lines

-- the reply lines of lines, one after another
abbrev pub lines_text : Cursor → List Line → List ℕ
lines_text c [] = []
lines_text c (line ∷ lines) = line_text c line ++ lines_text (after_line c line) lines
