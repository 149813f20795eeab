-- MEANING: the exit status of a program that ran a script to its end
use Rattle.std.specs.Prelude.{ℕ, if◌then◌else◌}
use Rattle.script.specs.declared.run.Outcome.{Outcome}

-- 1 where a reply was a refusal
abbrev pub status_of : {Keeper Plan : Type 0} → Outcome Keeper Plan → ℕ
status_of o = if o.refused then 1 else 0
