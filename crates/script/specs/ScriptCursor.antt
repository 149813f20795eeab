-- PROOF: Where a script stands.
use Rattle.script.specs.declared.script.Script.{Script}
use Rattle.script.specs.Cursor.{Cursor}

abbrev pub cursor_of : {S P : Type 0} → Script S P → Cursor
cursor_of s = record { settings = s.service.0; world = s.service.1; number = s.number; refused = s.refused }
