-- PROOF: the numbers of the lines whose replies lanes have left
use Rattle.std.specs.Prelude.{◌≡◌, ℕ, ◌+◌, ◌==◌, if◌then◌else◌, List, [], ◌∷◌, ◌++◌, slice_get, Some}
use Rattle.lanes.specs.declared.place.Place.{Place}
use Rattle.lanes.specs.declared.place.Place.TheVariants.{Barrier, Refused, InLane}
use Rattle.lanes.specs.Answers.{LineReply}

-- the number of a line in a lane, where it is this one
abbrev pub own_number : ℕ → ℕ → Place → List ℕ
own_number k number Barrier = []
own_number k number (Refused refusal) = []
own_number k number (InLane lane) = if lane == k then number ∷ [] else []

-- the numbers of a lane's lines among lines that are numbered from this one on
abbrev pub numbers_in : ℕ → ℕ → List Place → List ℕ
numbers_in k number [] = []
numbers_in k number (p ∷ ps) = own_number k number p ++ numbers_in k (number + 1) ps

-- each reply has its number here, at its own place; there may be fewer replies
abbrev pub HaveNumbers : List LineReply → List ℕ → Type 0
HaveNumbers [] ns = Unit {0}
HaveNumbers (r ∷ rs) [] = ⊥
HaveNumbers (r ∷ rs) (n ∷ ns) = (r.number ≡ n) × HaveNumbers rs ns

-- the replies that lanes have left are those to lines of their own, which are numbered from this one on
abbrev pub AreNumbered : ℕ → List Place → List (List LineReply) → Type 0
AreNumbered number ps rss = (k : ℕ) (rs : List LineReply) → slice_get rss k ≡ Some rs → HaveNumbers rs (numbers_in k number ps)

-- the first reply that a lane has left, where it has one, is the one to the line with this number
abbrev pub IsNextIn : ℕ → ℕ → List (List LineReply) → Type 0
IsNextIn lane number rss = (r : LineReply) (rs : List LineReply) → slice_get rss lane ≡ Some (r ∷ rs) → r.number ≡ number

-- likewise of the lane of a line, where it is in one
abbrev pub IsNext : Place → ℕ → List (List LineReply) → Type 0
IsNext Barrier number rss = Unit {0}
IsNext (Refused refusal) number rss = Unit {0}
IsNext (InLane lane) number rss = IsNextIn lane number rss
