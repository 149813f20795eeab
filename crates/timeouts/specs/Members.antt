-- INNER: deadlines, each known by a number
use Rattle.std.specs.Prelude.{ℕ, refl}
use Rattle.std.specs.FinMap.{FinMap, code}
use Rattle.std.specs.Coded.{Coded, code_by, coded×, coded_ℕ}
use Rattle.std.specs.Ordering.{nat_cmp}
use Rattle.timeouts.specs.contracts.due.Due.{the_row as due_row}
use Rattle.timeouts.specs.declared.due.Due.{Due}

-- deadlines by their numbers, and for how many more there is room
pub record Members : Type 0 where
  pub members : FinMap nat_cmp Due
  pub room : ℕ

abbrev pub members_code : Coded Members
members_code =
    code_by (FinMap nat_cmp Due
    × ℕ) (coded× (code coded_ℕ due_row.coded) coded_ℕ) (λ m. (m.members, m.room)) (λ p. record { members = p.0; room = p.1 }) (λ _. refl)
