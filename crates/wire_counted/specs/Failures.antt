-- MEANING: How often a device failed.
use Rattle.std.specs.Prelude.{ℕ, ◌+◌, ◌-◌, ◌^◌, ◌≤◌, min}

-- one failed call more, up to the greatest count there is
abbrev pub one_more : ℕ → ℕ
one_more count = min (count + 1) (2 ^ 64 - 1)

-- the count rose, unless it stood at the greatest there is
abbrev pub Rose : ℕ → ℕ → Type 0
Rose old new = one_more old ≤ new
