-- PROOF: what waits of what was issued in order
use Rattle.std.specs.Prelude.{ℕ, ◌+◌, List, [], ◌++◌, drop, length}
use Rattle.service_model_types.specs.declared.answer.Acknowledged.{Acknowledged}
use Rattle.service_model_types.specs.declared.answer.Acknowledged.TheVariants.{Acknowledged as IsNext}

-- what was issued and not counted, and how many were counted
pub record Waiting (T : Type 0) : Type 0 where
  pub items : List T
  pub counted : ℕ

-- nothing was issued yet
abbrev pub none_waits : {T : Type 0} → Waiting T
none_waits = record { items = []; counted = 0 }

-- so many were issued and counted, and nothing waits
abbrev pub counted_off : {T : Type 0} → ℕ → Waiting T
counted_off n = record { items = []; counted = n }

-- how many were issued
abbrev pub count_issued : {T : Type 0} → Waiting T → ℕ
count_issued w = w.counted + length w.items

-- one more was counted, the first that waited
abbrev pub one_counted : {T : Type 0} → Waiting T → Waiting T
one_counted w = record { items = drop 1 w.items; counted = w.counted + 1 }

-- more were issued
abbrev pub with_issued : {T : Type 0} → Waiting T → List T → Waiting T
with_issued w more = record { items = w.items ++ more; counted = w.counted }

-- what waits once a number was acknowledged, or not
abbrev pub acknowledged_by : {T : Type 0} → Acknowledged → Waiting T → Waiting T
acknowledged_by IsNext w = one_counted w
acknowledged_by _ w = w

-- what waits, and how many more have room
pub record Log (T : Type 0) : Type 0 where
  pub waiting : Waiting T
  pub room : ℕ
