-- PROOF: The lines of a text that comes in by parts, after a line so far.
use Rattle.std.specs.Prelude.{ℕ, ◌==◌, List, [], ◌∷◌, ◌++◌, fold, length, nat_lt, if◌then◌else◌, Bool, true, false, Some, None}
pub use Rattle.wire_lines.specs.Pending.{has_feed}
use Rattle.script.specs.Lines.{Line, limit}

-- a line so far, with one byte more
abbrev pub longer : Line → ℕ → Line
longer None byte = None
longer (Some bytes) byte = if nat_lt (length bytes) limit then Some (bytes ++ byte ∷ []) else None

-- a line so far, with more bytes
abbrev pub grown : Line → List ℕ → Line
grown line part = fold longer line part

-- the lines that end in a text after a line so far
unfoldable pub ended : Line → List ℕ → List Line
ended line [] = []
ended line (b ∷ text) = if b == 10 then line ∷ ended (Some []) text else ended (longer line b) text

-- the line so far after the last line that ends
unfoldable pub left : Line → List ℕ → Line
left line [] = line
left line (b ∷ text) = if b == 10 then left (Some []) text else left (longer line b) text

-- nothing of a line is there
abbrev pub is_empty_line : Line → Bool
is_empty_line (Some []) = true
is_empty_line (Some (b ∷ bytes)) = false
is_empty_line None = false

-- a last line without its line feed, unless nothing of it is there
abbrev pub last : Line → List Line
last line = if is_empty_line line then [] else line ∷ []
