-- MEANING: the whole lines of a text that comes in by parts, and what is left of a line
use Rattle.std.specs.Prelude.{ℕ, ◌==◌, List, [], ◌∷◌, ◌++◌, if◌then◌else◌, Bool}
use Rattle.std.specs.List.{list_any}

abbrev pub has_feed : List ℕ → Bool
has_feed text = list_any (λ b. b == 10) text

-- the lines that end in a text after a line so far
unfoldable pub ended : List ℕ → List ℕ → List (List ℕ)
ended line [] = []
ended line (b ∷ text) = if b == 10 then line ∷ ended [] text else ended (line ++ b ∷ []) text

-- the line so far after the last line that ends
unfoldable pub left : List ℕ → List ℕ → List ℕ
left line [] = line
left line (b ∷ text) = if b == 10 then left [] text else left (line ++ b ∷ []) text
