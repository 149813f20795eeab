-- MEANING: The lines of a text. A line ends at a line feed, and a last one without it counts.
use Rattle.std.specs.Prelude.{ℕ, List, [], ◌∷◌, length, map, nat_lt, if◌then◌else◌, Option, Some, None}
pub use Rattle.wire_lines.specs.Lines.{parts, before_last}

-- the most bytes that a line may have
abbrev pub limit : ℕ
limit = 1048576

-- a line's bytes, or nothing where they are too many
abbrev pub Line : Type 0
Line = Option (List ℕ)

abbrev pub within_limit : List ℕ → Line
within_limit bytes = if nat_lt limit (length bytes) then None else Some bytes

abbrev pub unless_empty : List ℕ → List (List ℕ)
unless_empty [] = []
unless_empty (b ∷ part) = (b ∷ part) ∷ []

-- all parts but a last one that is empty
abbrev pub without_empty_last : List (List ℕ) → List (List ℕ)
without_empty_last [] = []
without_empty_last (part ∷ []) = unless_empty part
without_empty_last (part ∷ next ∷ more) = part ∷ without_empty_last (next ∷ more)

-- the lines of a text that end in a line feed
abbrev pub whole_lines : List ℕ → List Line
whole_lines text = map within_limit (before_last (parts text))

-- the lines of a text, with a last one that has no line feed
abbrev pub all_lines : List ℕ → List Line
all_lines text = map within_limit (without_empty_last (parts text))
