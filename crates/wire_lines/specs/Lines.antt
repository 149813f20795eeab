-- MEANING: the lines of a text
use Rattle.std.specs.Prelude.{ℕ, ◌==◌, List, [], ◌∷◌}
use Rattle.std.specs.List.{slice_split}

-- the parts of a text between its line feeds; there is always one
abbrev pub parts : List ℕ → List (List ℕ)
parts text = slice_split (λ b. b == 10) text

-- all parts but the last
abbrev pub before_last : List (List ℕ) → List (List ℕ)
before_last [] = []
before_last (part ∷ []) = []
before_last (part ∷ next ∷ more) = part ∷ before_last (next ∷ more)
