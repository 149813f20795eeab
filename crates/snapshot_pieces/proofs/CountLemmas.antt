-- where one of two lists of counts has come to its end, no shard has both
use Rattle.std.proofs.Common.{◌≡◌, ℕ, List, [], ◌∷◌, length, refl, arith}
use Rattle.snapshot_pieces.specs.Trees.{both_counts}

pub none_first : (ms ns : List ℕ) → length ms ≡ 0 → both_counts ms ns ≡ []
none_first [] ns h = refl
none_first (m ∷ ms) ns h = absurd (omega (arith, h))

pub none_second : (ms ns : List ℕ) → length ns ≡ 0 → both_counts ms ns ≡ []
none_second [] ns h = refl
none_second (m ∷ ms) [] h = refl
none_second (m ∷ ms) (n ∷ ns) h = absurd (omega (arith, h))
