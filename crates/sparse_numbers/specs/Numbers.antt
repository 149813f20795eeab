-- MEANING: a list of numbers, and for how many more there is room
use Rattle.std.specs.Prelude.{ℕ, List}

pub record Numbers : Type 0 where
  pub items : List ℕ
  pub room : ℕ
